-- Calls by their kind. Assumes nothing.
use Rattle.std.specs.Prelude.{List, [], ◌∷◌, ◌++◌, Ok, Err, Result}
use Rattle.keypad.specs.declared.key.KeyEvent.{KeyEvent}
use Rattle.key_record.specs.declared.answer.Answer.{Answer}
use Rattle.key_record.specs.declared.answer.Reply.{Reply}
use Rattle.key_record.specs.declared.call.Call.{Call}
use Rattle.key_record.specs.declared.call.Call.TheVariants.{Arm, Key, Expire, Claim, Book, Waive}
use Rattle.key_record.specs.declared.refusal.Refusal.{Refusal}
use Rattle.key_record.specs.declared.settings.Settings.{Settings}

abbrev pub key_of : Call → List KeyEvent
key_of (Arm s) = []
key_of (Key k) = k ∷ []
key_of (Expire t) = []
key_of Claim = []
key_of (Book r n) = []
key_of (Waive r) = []

abbrev pub arming_of : Call → List Settings
arming_of (Arm s) = s ∷ []
arming_of (Key k) = []
arming_of (Expire t) = []
arming_of Claim = []
arming_of (Book r n) = []
arming_of (Waive r) = []

-- the keys of the calls, and their armings, each in order
abbrev pub keys : List Call → List KeyEvent
keys [] = []
keys (c ∷ cs) = key_of c ++ keys cs

abbrev pub armings : List Call → List Settings
armings [] = []
armings (c ∷ cs) = arming_of c ++ armings cs

abbrev pub Unrefused : Result Answer Refusal → Type 0
Unrefused (Ok x) = Unit {0}
Unrefused (Err why) = ⊥

abbrev pub Unexpired : Call → Type 0
Unexpired (Arm s) = Unit {0}
Unexpired (Key k) = Unit {0}
Unexpired (Expire t) = ⊥
Unexpired Claim = Unit {0}
Unexpired (Book r n) = Unit {0}
Unexpired (Waive r) = Unit {0}

-- no call is refused, and none is an expiry
abbrev pub Smooth : List Call → List Reply → Type 0
Smooth [] xs = Unit {0}
Smooth (c ∷ cs) [] = Unit {0}
Smooth (c ∷ cs) (x ∷ xs) = Unexpired c × Unrefused x.answer × Smooth cs xs

-- what a call adds to the accepted keys
abbrev pub unless_refused : Result Answer Refusal → List KeyEvent → List KeyEvent
unless_refused (Ok x) ks = ks
unless_refused (Err why) ks = []

-- the keys of key calls that were not refused, in order
abbrev pub accepted : List Call → List Reply → List KeyEvent
accepted [] xs = []
accepted (c ∷ cs) [] = []
accepted (c ∷ cs) (x ∷ xs) = unless_refused x.answer (key_of c) ++ accepted cs xs
