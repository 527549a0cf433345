-- The words by which a line calls commands and makes. Assumes nothing.
use Rattle.std.specs.Prelude.{ℕ, List, codes}
use Rattle.plancheck.specs.declared.command.Command.{Command}
use Rattle.plancheck.specs.declared.command.Command.TheVariants as command
use Rattle.plancheck.specs.declared.make.Make.{Make}
use Rattle.plancheck.specs.declared.make.Make.TheVariants as make

-- the word with which a command begins
abbrev pub command_word : Command → List ℕ
command_word command.Map = codes "map"
command_word command.Lots = codes "lots"
command_word command.Code = codes "code"
command_word command.Show = codes "show"

-- the name of a make
abbrev pub make_name : Make → List ℕ
make_name make.Map = codes "map"
make_name make.Lots = codes "lots"
make_name make.Pair = codes "pair"
make_name make.Coded = codes "coded"
make_name make.CodedLots = codes "coded-lots"
make_name make.PairCoded = codes "pair-coded"
make_name make.CodedPair = codes "coded-pair"
