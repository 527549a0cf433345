-- A line that is idle, done or claimed is not open. Assumes nothing.
use Rattle.std.proofs.Common.{◌≡◌, ℕ, arith}
use Rattle.key_record.specs.declared.ending.Ending.{Ending}
use Rattle.key_record.specs.declared.ending.Phase.{Phase}
use Rattle.key_record.specs.declared.ending.Phase.TheVariants.{Idle, Open, Done, Claimed}

pub idle_shut : (p : Phase) → p ≡ Idle → p ≡ Open → ⊥
idle_shut p idle opened = let z : ◌≡◌ {A = ℕ} 0 1 = cc in omega arith

pub done_shut : (p : Phase) (e : Ending) → p ≡ Done e → p ≡ Open → ⊥
done_shut p e done opened = let z : ◌≡◌ {A = ℕ} 0 1 = cc in omega arith

pub claimed_shut : (p : Phase) (e : Ending) → p ≡ Claimed e → p ≡ Open → ⊥
claimed_shut p e claimed opened = let z : ◌≡◌ {A = ℕ} 0 1 = cc in omega arith
