use Rattle.std.proofs.Common.{eqb, refl, rules}
use Rattle.digit_map.specs.Tokens.{colon_ahead}
use Rattle.digit_map.proofs.Gaps.{looks_ahead}
use Rattle.digit_map.proofs.blank.colon_next.Goals as goal

pub returns : goal.returns
returns c =
    looks_ahead (λ b. eqb b 58) colon_ahead refl (λ b bs. refl) _ _ _ c.args.text.now c.first_solid.ensures
    c.is_some_and.ensures (λ b q. search rules)
