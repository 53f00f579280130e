-- Rows that have some fields and perhaps others (the Definition, section 4.7: flexible records).
use Rattle.std.specs.Prelude.{◌≡◌, List, length, map, Some}
use Rattle.std.specs.List.{AllByRecursion}
use Rattle.sml_tree.specs.Trees.{Id}
use Rattle.sml_objects.specs.Labels.{AreRising, with_labels}
use Rattle.sml_objects.specs.Maps.{lookup}
use Rattle.sml_objects.specs.Objects.{row}
use Rattle.sml_layers.specs.Worlds.{World, In, make}

-- the fields with what stands for the types of theirs
abbrev pub fields_at : {A B : Type 0} → (A → B) → List (Id × A) → List (Id × B)
fields_at f fs = map (λ x. (x.0, f x.1)) fs

-- The type is a row, and has these fields.
pub record HasFields (N : Type 0) (w : World) (t : In N w) (fs : List (Id × In N w)) : Type 0 where
  pub labels : List Id
  pub types : List (In N w)
  pub rising : AreRising labels
  pub count : length types ≡ length labels
  pub is_row : t ≡ make w (row labels) types
  pub fields : AllByRecursion (λ f. lookup f.0 (with_labels labels types) ≡ Some f.1) fs
