-- What each refusal of a map tells. Assumes nothing.
use Rattle.std.specs.Prelude.{[], ◌∷◌}
use Rattle.terms.specs.Refusals.{Refusal, refusal}
use Rattle.maps.specs.declared.fault.MapFault.{MapFault}
use Rattle.maps.specs.declared.fault.MapFault.TheVariants.{PartitionCount, TableLength, Entry}

abbrev pub map_refusal : MapFault → Refusal
map_refusal (PartitionCount n) = refusal 8 (n ∷ [])
map_refusal (TableLength length) = refusal 9 (length ∷ [])
map_refusal (Entry index) = refusal 10 (index ∷ [])
