-- Types of finite and of infinite size, and assignments of them, over the names of a run.
use Rattle.sml_objects.specs.Initial.{Name}
use Rattle.sml_layers.specs.Worlds as W
use Rattle.sml_layers.specs.Worlds.{World}

abbrev pub InfiniteType : Type 0
InfiniteType = W.InfiniteType Name

abbrev pub In : World → Type 0
In w = W.In Name w

abbrev pub Assignment : World → Type 0
Assignment w = W.Assignment Name w
