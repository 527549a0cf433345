-- Words for causes, timers and numbers. Assumes nothing.
use Rattle.std.specs.Prelude.{ℕ, cond, List, [], ◌∷◌, ◌++◌, codes, decimal, ◌==◌}
use Rattle.keypad.specs.declared.timers.Timers.{Timers}
use Rattle.digit_map.specs.declared.fault.Cause.{Cause}
use Rattle.digit_map.specs.declared.fault.Cause.TheVariants.{Length, Head, Byte, Set, Affix, Keyless, Excess}

-- what a cause says in plain words
unfoldable pub phrase : Cause → List ℕ
phrase Length = codes "the text is empty or longer than 2,048 bytes"
phrase Head = codes "a head field is misplaced, repeated, ill-formed or 0 where it may not be 0"
phrase Byte = codes "a byte, the end of the text or a run of blanks is not allowed there"
phrase Set = codes "a set of keys is empty, is not closed, has a falling range or another byte in it"
phrase Affix = codes "a dot is not behind a position, or a Z is not before one"
phrase Keyless = codes "an alternative needs no key"
phrase Excess = codes "there is a position past the 255th or an alternative past the 64th"

-- what follows a noun of which there are n
abbrev pub ending : ℕ → List ℕ
ending n = cond (n == 1) [] (codes "s")

-- a line feed
abbrev pub feed : List ℕ
feed = 10 ∷ []

-- the timers, as `T 20 S 4 L 16 Z 10`
unfoldable pub timing : Timers → List ℕ
timing t =
    codes "T " ++ (decimal t.start ++ (codes " S " ++ (decimal t.short ++ (codes " L "
    ++ (decimal t.long ++ (codes " Z " ++ decimal t.hold))))))

-- a number, and the noun with its ending
unfoldable pub counted : ℕ → List ℕ → List ℕ
counted n noun = decimal n ++ (32 ∷ (noun ++ ending n))

-- the line `admitted: T 20 S 4 L 16 Z 10, 5 alternatives, 18 positions` and its line feed
unfoldable pub summary : Timers → ℕ → ℕ → List ℕ
summary t a p =
    codes "admitted: " ++ (timing t ++ (codes ", " ++ (counted a (codes "alternative")
    ++ (codes ", " ++ (counted p (codes "position") ++ feed)))))
