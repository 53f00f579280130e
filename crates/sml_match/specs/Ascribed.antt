-- What a structure has after an ascription (the Definition, section 5.7, rules 52 and 53).
use Rattle.std.specs.Prelude.{◌≡◌, List, []}
use Rattle.sml_lex.specs.declared.fault.Place.{Place}
use Rattle.sml_tree.specs.declared.structures.Ascription.{Ascription}
use Rattle.sml_tree.specs.declared.structures.Ascription.TheVariants.{Transparent, Opaque}
use Rattle.sml_objects.specs.Initial.{Name, naming}
use Rattle.sml_rules.specs.Answers.{accepted}
use Rattle.sml_rules.specs.Matching.{Realisation}
use Rattle.sml_core_rules.specs.Objects.{Env, Sig}
use Rattle.sml_module_rules.specs.Lines.{lines}
use Rattle.sml_module_rules.specs.Matching.{read_realisation}
use Rattle.sml_module_rules.specs.Realising.{no_function, realise_env, with_names}
use Rattle.sml_module_rules.specs.WellFormed.{AreDistinct}

-- Given are the signature, and the names that are new for those that it binds.
module _ (S : Sig Name) (ns : List Name) where
  -- The signature's environment: with the structure's types for the names that it binds (rule 52), or with the new names for them,
  -- where it binds none twice (rule 53).
  abbrev pub IsSealed : Ascription → Realisation Name → Env Name → Type 0
  IsSealed Transparent φ F = F ≡ realise_env φ S.body
  IsSealed Opaque φ F = AreDistinct S.names → F ≡ realise_env (with_names naming S.names ns (no_function naming)) S.body

-- The structure has a type for each name that the signature binds, and the environment is the signature's.
abbrev pub IsAscribed : Place → Env Name → Sig Name → List Name → Ascription → Env Name → Type 0
IsAscribed p E S ns a F =
    (φ : Realisation Name) × (read_realisation naming p S.names E (no_function naming) (lines [] S.body) ≡ accepted φ) × IsSealed S ns a φ F
