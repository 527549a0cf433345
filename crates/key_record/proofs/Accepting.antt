-- Which keys of a call are accepted, by its effect. Assumes nothing.
use Rattle.std.proofs.Common.{◌≡◌, List, [], Some, None, inl, inr, Result}
use Rattle.keypad.specs.declared.key.KeyEvent.{KeyEvent}
use Rattle.keypad.specs.Entries.{Entries}
use Rattle.key_record.specs.declared.answer.Answer.{Answer}
use Rattle.key_record.specs.declared.call.Call.{Call}
use Rattle.key_record.specs.declared.refusal.Refusal.{Refusal}
use Rattle.key_record.specs.Turns.{still, over}
use Rattle.key_record.specs.States.{State}
use Rattle.key_record.specs.Effects.{Effect, refuses, queues, begins, presses, claims, settles, Replies}
use Rattle.key_record.specs.Kinds.{key_of, unless_refused}
use Rattle.key_record.proofs.Natures.{Settlement}

-- of the keys of a call those that its effect accepts: all, unless it is refused
abbrev pub accepts : Effect → List KeyEvent → List KeyEvent
accepts (refuses why) ks = []
accepts (queues k) ks = ks
accepts (begins s out) ks = ks
accepts (presses out) ks = ks
accepts (claims e) ks = ks
accepts (settles l) ks = ks

pub replies_accept : (a : Entries) (st : State) (f : Effect) (x : Result Answer Refusal) (ks : List KeyEvent)
    → Replies a st f x → unless_refused x ks ≡ accepts f ks
replies_accept a st (refuses why) x ks e = rw e
replies_accept a st (queues k) x ks e = rw e
replies_accept a st (begins s (still p t)) x ks (v, running, e) = rw e
replies_accept a st (begins s (over o)) x ks e = rw e
replies_accept a st (presses (still p t)) x ks (v, running, e) = rw e
replies_accept a st (presses (over o)) x ks e = rw e
replies_accept a st (claims m) x ks e = rw e
replies_accept a st (settles None) x ks e = rw e
replies_accept a st (settles (Some l)) x ks e = rw e

pub settlement_keyless : (c : Call) → Settlement c → key_of c ≡ []
settlement_keyless c (inl (r, e)) = rw e
settlement_keyless c (inr (r, n, e)) = rw e
