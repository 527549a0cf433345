-- A turn answers the first line of the rest, and none is left at the end. Assumes nothing.
use Rattle.std.proofs.Common.{◌≡◌, ℕ, List, [], ◌++◌, string_bytes, sym, refl, subst}
use Rattle.map_report.specs.Lines.{lines}
use Rattle.std.proofs.lemmas.List.{append-nil}
use Rattle.plancheck.specs.Stores.{store_of, fresh}
use Rattle.plancheck.specs.Transcripts.{Transcript}
use Rattle.plancheck.proofs.Alike.{alike_self}
use Rattle.plancheck.proofs.Determined.{transcript_one}
use Rattle.plancheck.proofs.Transcripts.{printed_more}
use Rattle.plancheck.proofs.run.answer_lines.Goals as goal

pub loop-line-preserved : goal.loop-line-preserved
loop-line-preserved c =
    let out = string_bytes c.loop-line.out in
    let told = string_bytes c.in_ok-told.told in
    let grown : string_bytes c.push_str.new.self ≡ out ++ told =
    cc (c.in_ok-push_str.ensures.bytes, c.as_str.ensures.value) in
    printed_more _ _ _ _ _ _ _ _ _ c.loop-line.invariant c.in-Some.ensures.split
    c.in_ok-told.ensures grown

pub returns : goal.returns
returns c =
    let k = store_of c.loop-line.kept in
    let none = subst (λ (bs : List ℕ). Transcript k (lines bs) []) (sym c.in_default.ensures) refl in
    record {
      printed = rw append-nil at (c.loop-line.invariant [] none);
      only = transcript_one fresh fresh (alike_self fresh) (lines c.args.input.now);
    }

pub returns-in_err-told-clause-only : goal.returns-in_err-told-clause-only
returns-in_err-told-clause-only c = transcript_one fresh fresh (alike_self fresh) (lines c.args.input.now)

pub returns-in_err-push_str-clause-only : goal.returns-in_err-push_str-clause-only
returns-in_err-push_str-clause-only c = transcript_one fresh fresh (alike_self fresh) (lines c.args.input.now)
