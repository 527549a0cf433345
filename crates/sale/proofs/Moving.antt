-- What commands print moves to the same entries. Assumes nothing.
use Rattle.std.proofs.Common.{◌≡◌, ℕ, List, [], ◌∷◌, Ok, subst, inl, inr, Result}
use Rattle.keypad.specs.declared.timers.Timers.{Timers}
use Rattle.keypad.specs.Entries.{Entries}
use Rattle.keypad.specs.Sets.{Same}
use Rattle.keypad.proofs.Sames.{remains_same}
use Rattle.key_record.specs.declared.answer.Answer.{Answer}
use Rattle.key_record.specs.declared.call.Call.{Call}
use Rattle.key_record.specs.declared.refusal.Refusal.{Refusal}
use Rattle.key_record.specs.Record.{Kept, start, remaining}
use Rattle.key_record.proofs.Moves.{allows_same, replies_same}
use Rattle.digit_map.specs.declared.map.Map.{Map}
use Rattle.digit_map.specs.Derives.{ReadExactly}
use Rattle.digit_map.specs.Maps.{places, timers_of}
use Rattle.digit_map.specs.Meaning.{MapEntry}
use Rattle.sale.specs.Commands.{calls_of}
use Rattle.sale.specs.Sales.{SoldBy}
use Rattle.sale.specs.Transcripts.{Takes, TakesAll, Orders, Transcript}

module _ (w v : Entries) (h : Same w v) where
  takes_same : (r : Kept) (c : Call) (x : Result Answer Refusal) (n : Kept) → Takes w r c x n → Takes v r c x n
  takes_same r c x n (f, allowed, noted, answered) =
      let i = remains_same w v r.state.dial h in
      let j = remains_same w v n.state.dial h in (
        f,
        allows_same r.state w v (remaining w r) (remaining v r) h (λ _. i) c f allowed,
        noted,
        replies_same (remaining w n) (remaining v n) n.state (λ _. j) f x answered,
      )

  takes_all_same : (cs : List Call) (xs : List (Result Answer Refusal)) (r n : Kept) → TakesAll w r cs xs n
      → TakesAll v r cs xs n
  takes_all_same [] [] r n f = f
  takes_all_same [] (x ∷ xs) r n f = f
  takes_all_same (c ∷ cs) [] r n f = f
  takes_all_same (c ∷ cs) (x ∷ xs) r n (m, one, all) =
      (m, takes_same r c x m one, takes_all_same cs xs m n all)

  orders_same : (t : Timers) (r n : Kept) (bs o : List ℕ) → Orders w t r bs o n → Orders v t r bs o n
  orders_same t r n bs o (inl x) = inl x
  orders_same t r n bs o (inr (c, writes, xs, ls, takes, grown, told)) =
      inr (c, writes, xs, ls, takes_all_same (calls_of t 85 r.state c) xs r n takes, grown, told)

  pub transcript_same : (t : Timers) (r : Kept) (bss : List (List ℕ)) (out : List ℕ)
      → Transcript w t r bss out
      → Transcript v t r bss out
  transcript_same t r [] out x = x
  transcript_same t r (bs ∷ bss) out (o, n, orders, (more, e, rest)) =
      (o, n, orders_same t r n bs o orders, (more, e, transcript_same t n bss more rest))

-- what is printed on a line with the entries and the timers of a map
pub map_sold : (text : List ℕ) (m : Map) (w : Entries) (t : Timers) (bss : List (List ℕ)) (out : List ℕ)
    → ReadExactly text (Ok m) → Same w (MapEntry (places m)) → t ≡ timers_of m → Transcript w t
    (start 1) bss out
    → SoldBy text bss out
map_sold text m w t bss out read same timers told = (
  Ok m,
  read,
  subst (λ u. Transcript (MapEntry (places m)) u (start 1) bss out) timers
      (transcript_same w (MapEntry (places m)) same t (start 1) bss out told),
)
