-- The entries of the plans that are made from what is kept. Assumes nothing.
use Rattle.std.specs.Prelude.{Some, None, Option}
use Rattle.keypad.specs.Entries.{Entries}
use Rattle.digit_map.specs.Maps.{places}
use Rattle.digit_map.specs.Meaning.{MapEntry}
use Rattle.digit_map.specs.declared.map.Map.{Map}
use Rattle.plans.specs.Coded.{Behind}
use Rattle.plans.specs.Lots.{listed}
use Rattle.plans.specs.Pairs.{Either}
use Rattle.plancheck.specs.declared.make.Make.{Make}
use Rattle.plancheck.specs.declared.make.Make.TheVariants as make
use Rattle.plancheck.specs.Stores.{Store}

-- the entries of a map; none where there is no map
abbrev pub mapped : Option Map → Entries
mapped (Some m) = MapEntry (places m)
mapped None = λ _. ⊥

-- the entries of the map that is kept
abbrev pub map_entries : Store → Entries
map_entries k = mapped k.map

-- the entries of the lots that are kept
abbrev pub lot_entries : Store → Entries
lot_entries k = listed k.lots k.width

-- those of a set behind the code that is kept
abbrev pub coded_entries : Store → Entries → Entries
coded_entries k a = Behind k.code a

-- the entries that each make has
abbrev pub entries_of : Store → Make → Entries
entries_of k make.Map = map_entries k
entries_of k make.Lots = lot_entries k
entries_of k make.Pair = Either (map_entries k) (lot_entries k)
entries_of k make.Coded = coded_entries k (map_entries k)
entries_of k make.CodedLots = coded_entries k (lot_entries k)
entries_of k make.PairCoded = Either (map_entries k) (coded_entries k (lot_entries k))
entries_of k make.CodedPair = coded_entries k (Either (map_entries k) (lot_entries k))
