use Rattle.std.proofs.Common.{refl, rules}
use Rattle.digit_map.specs.Bytes.{joint}
use Rattle.digit_map.specs.Tokens.{joint_ahead}
use Rattle.digit_map.proofs.Gaps.{looks_ahead}
use Rattle.digit_map.proofs.blank.joint_next.Goals as goal

pub returns : goal.returns
returns c =
    looks_ahead joint joint_ahead refl (λ b bs. refl) _ _ _ c.args.text.now c.first_solid.ensures
    c.is_some_and.ensures (λ b q. search rules)
