-- The contexts of the symbols that are still to come, as the program keeps them. No public contract rests on it.
use Rattle.std.specs.Prelude.{List, [], ◌∷◌, ◌++◌, replicate, reverse}
use Rattle.sml_flaws.specs.declared.mark.Context.{Context}
use Rattle.sml_flaws.specs.declared.mark.Run.{Run}
use Rattle.sml_flaws.specs.declared.mark.Runs.{Runs}

-- the contexts of the symbols of runs
abbrev pub contexts_in : List Run → List Context
contexts_in [] = []
contexts_in (run ∷ runs) = replicate run.count run.context ++ contexts_in runs

-- those of all symbols, the next one first
abbrev pub contexts_of : Runs → List Context
contexts_of runs = contexts_in (runs.here ∷ reverse runs.after.items)
