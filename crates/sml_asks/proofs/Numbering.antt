-- Names with numbers from the next one on are new.
use Rattle.std.proofs.Common.{◌≡◌, ◌⊎◌, ◌<◌, ◌≤◌, ◌+◌, ℕ, suc, List, [], ◌∷◌, length, inl, inr, sym, subst, refl, arith}
use Rattle.std.specs.List.{AllByRecursion}
use Rattle.sml_objects.specs.Appearance.{Stands}
use Rattle.sml_objects.specs.Initial as N
use Rattle.sml_objects.specs.Initial.{Name, initial, naming}
use Rattle.sml_objects.specs.Objects.{Outside}
use Rattle.sml_layers.specs.declared.variable.Variable.{Variable}
use Rattle.sml_layers.specs.Explicit.{variable_name}
use Rattle.sml_graph.specs.Bounds.{IsNameWithin}
use Rattle.sml_core_rules.specs.States.{AreMade}
use Rattle.sml_asks.specs.Solvers.{AreNames}
use Rattle.sml_asks.specs.Steps.{IsNew, NamesAreMade, numbered}

new-stands : (unit next k a : ℕ) (q : _) (names : List Name) → AreNames unit next names → next ≤ k → Stands (N.made unit k a q) names → ⊥
new-stands unit next k a q names known le h = let w : k < next = known.within (N.made unit k a q) h refl in omega (arith, w, le)

outside : (n : Name) (names : List Name) → (Stands n names → ⊥) → Outside n names
unfolding Outside Stands
outside n [] h = tt
outside n (m ∷ ms) h = ((λ e. h (inl (sym e))), outside n ms (λ s. h (inr s)))

one-more : (unit next a : ℕ) (q : _) (names : List Name) → 0 < unit → AreNames unit next names → AreNames unit (suc next) (N.made unit next a q ∷ names)
unfolding Stands
one-more unit next a q names counted known = record {
  initials = λ k. inr (known.initials k);
  within = within;
  apart = apart;
}
  where
    later : (n : Name) → IsNameWithin unit next n → IsNameWithin unit (suc next) n
    later (initial k) h = tt
    later (N.made u k b r) h = λ e. omega (arith, h e)

    within : (n : Name) → (n ≡ N.made unit next a q) ⊎ Stands n names → IsNameWithin unit (suc next) n
    within n (inl e) = subst (IsNameWithin unit (suc next)) (sym e) (λ p. omega arith)
    within n (inr h) = later n (known.within n h)

    apart : (x : Variable) → (variable_name x ≡ N.made unit next a q) ⊎ Stands (variable_name x) names → ⊥
    apart x (inl e) = let p : 0 ≡ unit = cc in omega (arith, counted, p)
    apart x (inr h) = known.apart x h

sooner : (unit first last : ℕ) (ns : List Name) → AllByRecursion (IsNew unit (suc first) last) ns → AllByRecursion (IsNew unit first last) ns
sooner unit first last [] h = tt
sooner unit first last (n ∷ ns) h =
    (record { number = h.0.number; arity = h.0.arity; equality = h.0.equality; is = h.0.is; from = omega (arith, h.0.from); below = h.0.below }, sooner unit first last ns h.1)

pub names-are-made : NamesAreMade
unfolding AreMade naming
names-are-made unit next names [] counted known none = (refl, tt)
names-are-made unit next names (w ∷ ws) counted known none =
    let n = N.made unit next w.arity w.equality in
    let rest = names-are-made unit (suc next) (n ∷ names) ws counted (one-more unit next w.arity w.equality names counted known) none.1 in
    let last : suc next + length ws ≡ next + suc (length ws) = omega arith in (
      (
        n,
        numbered unit (suc next) ws,
        outside n names (new-stands unit next next w.arity w.equality names known (omega arith)),
        (λ k e. cc),
        (λ i. record { maker = unit; arity = w.arity; equality = w.equality; constructors = sym none.0 i }),
        rest.0,
        refl,
      ),
      (
        record { number = next; arity = w.arity; equality = w.equality; is = refl; from = omega arith; below = omega arith },
        sooner unit next (next + suc (length ws)) (numbered unit (suc next) ws) (subst (λ l. AllByRecursion (IsNew unit (suc next) l) (numbered unit (suc next) ws)) last rest.1),
      ),
    )
