-- The facts of a map's entries, computed. Assumes nothing.
use Rattle.std.proofs.Common.{◌≡◌, true, List, [], ◌∷◌, Some, None, refl}
use Rattle.keypad.specs.declared.key.Symbol.{Symbol}
use Rattle.keypad.specs.Entries.{Entries}
use Rattle.keypad.specs.Sets.{Same, After}
use Rattle.keypad.proofs.Sames.{flip, same_trans, after_same}
use Rattle.keypad.proofs.Sames.{starts_same, ended_same, settled_same, goes_on_same, under_same}
use Rattle.digit_map.specs.declared.node.Node.{Node}
use Rattle.digit_map.specs.Meaning.{MapEntry}
use Rattle.digit_map.specs.Proper.{proper}
use Rattle.map_plan.specs.declared.places.Places.{Places}
use Rattle.map_plan.specs.Asking as ask
use Rattle.map_plan.specs.Asking.{answered}
use Rattle.map_plan.specs.Live.{Closed, Rest}
use Rattle.map_plan.proofs.Spots.{live_from, tells_from}
use Rattle.map_plan.proofs.Answers.{tells_of, rest_starts, rest_ended, rest_settled, rest_goes, rest_under}
use Rattle.sale_cases.proofs.Facts.{Facts, Knows, Decides}
use Rattle.sale_cases.proofs.Sweeps.{none, live_next, next_rest, next_closed, none_closed}

abbrev pub live_facts : List Node → Places → Facts
live_facts ns live = record {
  starts = λ s. live_from live (ask.takes_symbol s) 0 ns;
  ended = live_from live ask.ends 0 ns;
  settled = live_from live ask.settles 0 ns;
  goes_on = live_from live ask.awaits 0 ns;
  under = λ m. live_from live (ask.under m) 0 ns;
}

abbrev pub live_after_lem : List Node → Places → List Symbol → Places
live_after_lem ns live [] = live
live_after_lem ns live (s ∷ d) = live_after_lem ns (live_next ns live (Some s)) d

-- the facts of what remains of the map's entries after a dial string
abbrev pub map_facts : List Node → List Symbol → Facts
map_facts ns d = live_facts ns (live_after_lem ns (live_next ns (none ns) None) d)

-- the same entries have the same facts
knows_same : (a b : Entries) (k : Facts) → Same a b → Knows a k → Knows b k
knows_same a b k s h = record {
  starts = λ y. tells_of (k.starts y) (starts_same a b y s) (starts_same b a y (flip a b s)) (h.starts y);
  ended = tells_of k.ended (ended_same a b s) (ended_same b a (flip a b s)) h.ended;
  settled = tells_of k.settled (settled_same a b s) (settled_same b a (flip a b s)) h.settled;
  goes_on = tells_of k.goes_on (goes_on_same a b s) (goes_on_same b a (flip a b s)) h.goes_on;
  under = λ m. tells_of (k.under m) (under_same a b m s) (under_same b a m (flip a b s)) (h.under m);
}

module _ (ns : List Node) where
  module _ (whole : proper ns ≡ true) where
    live_known : (live : Places) → Closed ns live → Knows (Rest ns live) (live_facts ns live)
    live_known live c = record {
      starts = λ s. rest_starts ns live whole c _ s (tells_from live (ask.takes_symbol s) ns _ refl);
      ended = rest_ended ns live whole c _ (tells_from live ask.ends ns _ refl);
      settled = rest_settled ns live whole c _ (tells_from live ask.settles ns _ refl);
      goes_on = rest_goes ns live whole c _ (tells_from live ask.awaits ns _ refl);
      under = λ m. rest_under ns live whole c _ m (tells_from live (ask.under m) ns _ refl);
    }

    -- what the live places leave stays known over every dial string
    live_decides : (a : Entries) (live : Places) → Closed ns live → Same (Rest ns live) a →
        Decides a (λ d. live_facts ns (live_after_lem ns live d))
    live_decides a live c s [] = knows_same (Rest ns live) a _ s (live_known live c)
    live_decides a live c s (y ∷ d) =
        live_decides (After a y) (live_next ns live (Some y)) (next_closed ns live (Some y))
        (same_trans _ (After (Rest ns live) y) (After a y) (next_rest ns live (Some y) c)
        (after_same (Rest ns live) a y s)) d

    pub map_decides : Decides (MapEntry ns) (map_facts ns)
    map_decides = live_decides (MapEntry ns) (live_next ns (none ns) None) (next_closed ns (none ns) None)
        (next_rest ns (none ns) None (none_closed ns))
