-- Environments whose maps are copies.
use Rattle.std.proofs.Common.{◌≡◌, ap, sym, ◌∙◌, Global}
use Rattle.std.specs.declared.rc.Rc.{Rc}
use Rattle.sml_tree.specs.Views.{ident_of}
use Rattle.sml_objects.specs.Objects as O
use Rattle.sml_objects.specs.Views.{env_of, scheme_of, entries_of, structures_of}
use Rattle.sml_objects.specs.declared.objects.Env.{Env}
use Rattle.sml_objects.specs.declared.objects.Env.TheOpen.{Env-F}
use Rattle.sml_objects.specs.declared.objects.Env.TheViews.{out-Env, roll-Env}
use Rattle.sml_objects.proofs.EnvViews.{map-map, env_of-roll, env_of-out}
use Rattle.sml_objects.proofs.Joins.{Stored, mapped}

seen : {A X : Type 0} (g : A → X) (es : Stored (Rc A Global)) → mapped g (entries_of (λ s. s.value) es) ≡ entries_of (λ s. g s.value) es
seen g es = map-map (λ e. (e.0, g e.1)) (λ e. (ident_of e.0, e.1.value)) es

seen_alike : {A X : Type 0} (g : A → X) (es fs : Stored (Rc A Global)) → entries_of (λ s. s.value) fs ≡ entries_of (λ s. s.value) es → entries_of (λ s. g s.value) fs ≡ entries_of (λ s. g s.value) es
seen_alike g es fs h = sym (seen g fs) ∙ ap (mapped g) h ∙ seen g es

pub copied_env : (old : Env) (new : Env-F Env)
    → entries_of (λ s. s.value) new.structures.entries ≡ entries_of (λ s. s.value) (out-Env old).structures.entries
    → entries_of (λ s. s.value) new.types.entries ≡ entries_of (λ s. s.value) (out-Env old).types.entries
    → entries_of (λ s. s.value) new.values.entries ≡ entries_of (λ s. s.value) (out-Env old).values.entries
    → env_of (roll-Env new) ≡ env_of old
copied_env old new ss ts vs =
    env_of-roll new
    ∙ (λ i. O.env (structures_of (seen_alike env_of (out-Env old).structures.entries new.structures.entries ss i))
    (seen_alike scheme_of (out-Env old).types.entries new.types.entries ts i)
    (seen_alike scheme_of (out-Env old).values.entries new.values.entries vs i))
    ∙ sym (env_of-out old)
