-- A word calls one command or one make only. Assumes nothing.
use Rattle.std.proofs.Common.{◌≡◌, ℕ, cond, eqb, List, length, get_or, sym, refl, ap, ◌∙◌}
use Rattle.plancheck.specs.declared.command.Command.{Command}
use Rattle.plancheck.specs.declared.command.Command.TheVariants as command
use Rattle.plancheck.specs.declared.make.Make.{Make}
use Rattle.plancheck.specs.declared.make.Make.TheVariants as make
use Rattle.plancheck.specs.Names.{command_word, make_name}

-- the make that a name is of
abbrev make_back : List ℕ → Make
make_back bs =
    cond (eqb (length bs) 3) make.Map (cond (eqb (length bs) 4)
    (cond (eqb (get_or bs 0 0) 108) make.Lots make.Pair)
    (cond (eqb (length bs) 5) make.Coded (cond (eqb (get_or bs 0 0) 112) make.PairCoded
    (cond (eqb (get_or bs 6 0) 108) make.CodedLots make.CodedPair))))

back_make : (m : Make) → make_back (make_name m) ≡ m
back_make make.Map = refl
back_make make.Lots = refl
back_make make.Pair = refl
back_make make.Coded = refl
back_make make.CodedLots = refl
back_make make.PairCoded = refl
back_make make.CodedPair = refl

-- one make by a name
pub make_one : (m n : Make) → make_name m ≡ make_name n → m ≡ n
make_one m n e = sym (back_make m) ∙ ap make_back e ∙ back_make n

abbrev command_back : List ℕ → Command
command_back bs =
    cond (eqb (get_or bs 0 0) 109) command.Map (cond (eqb (get_or bs 0 0) 108) command.Lots
    (cond (eqb (get_or bs 0 0) 99) command.Code command.Show))

back_command : (c : Command) → command_back (command_word c) ≡ c
back_command command.Map = refl
back_command command.Lots = refl
back_command command.Code = refl
back_command command.Show = refl

-- one command by a word
pub command_one : (c d : Command) → command_word c ≡ command_word d → c ≡ d
command_one c d e = sym (back_command c) ∙ ap command_back e ∙ back_command d
