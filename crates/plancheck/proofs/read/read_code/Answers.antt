-- Each letter is kept. Assumes nothing.
use Rattle.std.proofs.Common.{rules, tests}
use Rattle.std.proofs.lemmas.Iterator.{items_from_collect, YieldsList-from_slice, YieldsList-from_map}
use Rattle.std.proofs.lemmas.Iterator.Consumers.{YieldsList-at}
use Rattle.plancheck.proofs.Codes.{code_number, same_number, kept_code}
use Rattle.plancheck.proofs.read.read_code.Goals as goal

pub returns : goal.returns
returns c =
    kept_code (λ v. v.items) c.args.text.now c.collect.result
    (items_from_collect _ c.collect.ensures.ran (YieldsList-from_map _ code_number
    (YieldsList-at c.map.ensures.source (YieldsList-from_slice c.args.text.now c.iter.ensures.rest)) c.map.ensures.closure
    (λ x r q k. search (rules, tests, same_number))))
