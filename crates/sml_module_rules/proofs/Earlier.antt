-- What a plain script is answered where some names were made, it may be answered where fewer were.
use Rattle.std.specs.Prelude.{◌++◌}
use mathlib.Core.Path.{sym, ap, subst}
use mathlib.Core.Logic.{inl, inr}
use Rattle.sml_objects.specs.Objects.{Outside}
use Rattle.sml_rules.specs.Answers.{accepted}
use Rattle.sml_rules.proofs.Settled.{outside-left, outside-right, outside-append}
use Rattle.sml_rules.proofs.Sound.{accepted_same, not_refused}
use Rattle.sml_core_rules.specs.Objects.{names_env}
use Rattle.sml_core_rules.specs.States.{Scope, State, with_made}
use Rattle.sml_core_rules.specs.Scripts.{Script, give, refuse, tests, either, makes_unknowns, requires, sees, sets_window, stays_open, judges, starts_anew, requires_or, closes, determines, makes_names, makes_datatypes, IsAnswer}
use Rattle.sml_core_rules.proofs.Plain.{IsPlain, fewer-made, fewer-new}

-- every name made in one state was made in the other
abbrev pub Within : {P N : Type 0} → State P N → State P N → Type 0
Within {N = N} t w = (n : N) → Outside n w.names → Outside n t.names

within-made : {P N : Type 0} (ns : _) (t w : State P N) → Within t w → Within (with_made ns t) (with_made ns w)
within-made ns t w c n o = outside-append n ns t.names (outside-left n ns w.names o) (c n (outside-right n ns w.names o))

pub earlier : {P N X : Type 0} (scope : Scope N) (k : Script P N X) → IsPlain k → (t w : State P N) → Within t w → (r : X × State P N) → IsAnswer scope k w (accepted r)
    → (z : State P N) × IsAnswer scope k t (accepted (r.0, z)) × Within z r.1
unfolding IsPlain IsAnswer
earlier scope (give x) e t w c r h = (t, (λ i. accepted ((accepted_same h i).0, t)), subst (λ (v : _). Within t v) (sym (ap (λ q. q.1) (accepted_same h))) c)
earlier scope (refuse f) e t w c r h = absurd (not_refused h)
earlier scope (tests C f k) e t w c r (inl (x, h)) = let a = earlier scope k e t w c r h in (a.0, inl (x, a.1), a.2)
earlier scope (tests C f k) e t w c r (inr h) = absurd (not_refused h.1)
earlier scope (either C k j) e t w c r (inl (x, h)) = let a = earlier scope k e.0 t w c r h in (a.0, inl (x, a.1), a.2)
earlier scope (either C k j) e t w c r (inr (x, h)) = let a = earlier scope j e.1 t w c r h in (a.0, inr (x, a.1), a.2)
earlier scope (makes_unknowns n k) e t w c r h = absurd e
earlier scope (requires d p k) e t w c r h = absurd e
earlier scope (sees k) e t w c r h = absurd e
earlier scope (sets_window v k) e t w c r h = absurd e
earlier scope (stays_open k) e t w c r h = absurd e
earlier scope (judges j k) e t w c r h = absurd e
earlier scope (starts_anew k) e t w c r h = absurd e
earlier scope (requires_or d f k) e t w c r h = absurd e
earlier scope (closes n x u k) e t w c r h = absurd e
earlier scope (determines u f k) e t w c r h = absurd e
earlier scope (makes_names ws k) e t w c r (ns, new, h) =
    let a = earlier scope (k ns) (e ns) (with_made ns t) (with_made ns w) (within-made ns t w c) r h in
    (a.0, (ns, fewer-made scope ws t.names w.names ns c new, a.1), a.2)
earlier scope (makes_datatypes C ds k) e t w c r (ns, new, made, inl h) = absurd (not_refused h.2)
earlier scope (makes_datatypes C ds k) e t w c r (ns, new, made, inr (gs, f, x, h)) =
    let a = earlier scope (k ns gs) (e ns gs) (with_made ns t) (with_made ns w) (within-made ns t w c) r h in
    let fewer = fewer-new scope.names ds (names_env C ++ t.names) (names_env C ++ w.names) ns
    (λ n o. outside-append n (names_env C) t.names (outside-left n (names_env C) w.names o) (c n (outside-right n (names_env C) w.names o))) new in
    (a.0, (ns, fewer, made, inr (gs, f, x, a.1)), a.2)
