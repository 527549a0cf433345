-- What is refused and why, and what a plan of lots admits. Assumes nothing.
use Rattle.std.proofs.Common.{vec_items, arith}
use Rattle.plans.specs.LotsLemmas.{rewound_left, listed_barren, listed_empty}
use Rattle.plans.proofs.lot.LotPlan.new.Goals as goal

pub returns : goal.returns
returns c = let ns = vec_items c.args.lots in let w = c.args.width in
    record {
      wide = (omega arith, omega arith);
      few = omega arith;
      admits = λ e. (λ x. x, λ x. x);
      rewound = rewound_left ns w;
      barren = listed_barren ns w;
      empty = listed_empty ns w;
    }
