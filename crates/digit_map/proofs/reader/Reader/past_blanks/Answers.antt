use Rattle.std.proofs.Common.{length-drop, drop, ap, ◌∙◌, rules, arith}
use Rattle.std.proofs.lemmas.List.{take_rest}
use Rattle.std.proofs.lemmas.List.Sums.{prefix_len-le-length}
use Rattle.digit_map.specs.Bytes.{blank}
use Rattle.digit_map.specs.Tokens.{joint_ahead}
use Rattle.digit_map.proofs.Gaps.{joint_behind}
use Rattle.digit_map.proofs.reader.Reader.past_blanks.Goals.{then-loose, else-loose}
use Rattle.digit_map.proofs.reader.Reader.past_blanks.Goals as goal

pub overflow_add-at : goal.overflow_add-at
overflow_add-at c =
    let s = c.args.self.now in
    let e = c.leading_blanks-blanks.ensures.value in
    let b = rw take_rest at e in
    let l = prefix_len-le-length blank (drop s.cursor.at s.text.now) in
    let d = length-drop s.cursor.at s.text.now in
    omega arith

pub returns : goal.returns
returns c =
    let s = c.args.self.now in
    let bs = drop s.cursor.at s.text.now in
    let e = c.leading_blanks-blanks.ensures.value in
    let b = rw take_rest at e in
    elim c.if-loose.branch [
      | then-loose w ↦ search rules
      | else-loose w ↦
          let h = w.joint_next.ensures in
          let t = rw take_rest at (rw take_rest at h) in
          let j = t ∙ (ap (λ k. joint_ahead (drop k bs)) b ∙ joint_behind bs) in
          search rules
    ]
