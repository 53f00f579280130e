-- Samples of warnings.
use Rattle.std.specs.Prelude.{◌≡◌, ◌⊎◌, ◌↔◌, ℕ, zero, suc, true, List, [], ◌∷◌, ◌++◌, codes, Some, None}
use Rattle.std.specs.List.Sorted.{IsStrictlySortedBy}
use Rattle.std.proofs.Common.{arith}
use mathlib.Core.Path.{refl, sym, ap, subst, ◌∙◌}
use mathlib.Core.Logic.{inl, inr}
use Rattle.sml_lex.specs.declared.fault.Place.{Place}
use Rattle.sml_lex.specs.declared.fault.Warning.{Warning}
use Rattle.sml_lex.specs.declared.fault.Code.TheVariants.{P1, P2, P3}
use Rattle.sml_patterns.specs.Shape.{World, Kind, Constructors, Labels, Values, Opaque, Shape, Cut, OfConstructor, IsShape, Matches, Fits, FitsKind, column, part, part_at}
use Rattle.sml_patterns.specs.Warnings.{Rule, MakeRules, AllFit, Escapes, IsRedundant, IsOpen, IsOpenAt, IsWarning, warning}
use Rattle.sml_patterns.proofs.Vectors.{some_shape}
use Rattle.sml_narrowing.specs.Plain.{Plain, Wild, Made}
use Rattle.sml_objects.specs.Appearance.{Stands}
use Rattle.sml_core_rules.specs.Objects.{constructor}
use Rattle.sml_core_rules.specs.States.{Holder, of_fn, of_handle, of_val}
use Rattle.sml_run_rules.specs.Samples.{at, one_rule, variables, constructors, WarningSamples}
use Rattle.sml_run_rules.specs.Warnings.{IsWarningOf, meaning_of, holder_of}

-- the second of two constructors
abbrev second : Plain
second = Made 1 2 Wild

abbrev ruled : ℕ → Plain → Rule
ruled k p = record { place = at k; plain = p }

-- a world in which each type has two constructors
abbrev booleans : World
booleans = record { kind = λ t. Constructors 2 (λ k. 0); written = λ v. true }

-- of a type that the constructor fits, some shape matches it
matching : (w : World) (d t : ℕ) → Fits w d t second → (s : Shape) × IsShape w (part w (column d t)) s × Matches second s
matching w zero t h = absurd h
matching w (suc d) t h = by-kind (w.kind t) h
  where
    by-kind : (k : Kind) → FitsKind w (Fits w d) k second → (s : Shape) × IsShape w (part_at d k) s × Matches second s
    by-kind (Constructors n f) g = let s = some_shape w d (f 1) in (OfConstructor 1 s.0, (g.1, s.1), (refl, tt))
    by-kind (Labels f) g = absurd g
    by-kind (Values f) g = absurd g
    by-kind Opaque g = absurd g

-- where a rule stands among one or two

nothing-after : (above : List Rule) (r : Rule) (below : List Rule) → [] ≡ above ++ r ∷ below → ⊥
nothing-after [] r below e = let f : [] ≡ r ∷ below = e in absurd cc
nothing-after (a ∷ above) r below e = let f : [] ≡ a ∷ (above ++ r ∷ below) = e in absurd cc

abbrev head_or : Rule → List Rule → Rule
head_or d [] = d
head_or d (r ∷ rs) = r

abbrev rest_of : List Rule → List Rule
rest_of [] = []
rest_of (r ∷ rs) = rs

one-of-one : (q r : Rule) (above below : List Rule) → q ∷ [] ≡ above ++ r ∷ below → (above ≡ []) × (q ≡ r)
one-of-one q r [] below e = (refl, ap (head_or q) e)
one-of-one q r (a ∷ above) below e = absurd (nothing-after above r below (ap rest_of e))

one-of-two : (q p r : Rule) (above below : List Rule) → q ∷ p ∷ [] ≡ above ++ r ∷ below → ((above ≡ []) × (q ≡ r)) ⊎ ((above ≡ q ∷ []) × (p ≡ r))
one-of-two q p r [] below e = inl (refl, ap (head_or q) e)
one-of-two q p r (a ∷ above) below e =
    let f = one-of-one p r above below (ap rest_of e) in
    let g : a ≡ q = sym (ap (head_or q) e) in inr ((λ i. g i ∷ f.0 i), f.1)

-- a rule that is the first isn't redundant

wild-needed : (w : World) (d t : ℕ) (r : Rule) (above : List Rule) → above ≡ [] → r.plain ≡ Wild → IsRedundant w (column d t) above r → ⊥
wild-needed w d t r above e p h =
    let s = some_shape w d t in h s.0 s.1 (subst (λ p. Matches p s.0) (sym p) tt) (subst (λ a. Escapes a s.0) (sym e) tt)

second-needed : (w : World) (d t : ℕ) (r : Rule) (above : List Rule) → above ≡ [] → r.plain ≡ second → Fits w d t second → IsRedundant w (column d t) above r → ⊥
second-needed w d t r above e p f h =
    let s = matching w d t f in h s.0 s.1 (subst (λ p. Matches p s.0) (sym p) s.2) (subst (λ a. Escapes a s.0) (sym e) tt)

-- one rule with a variable

whole-none : (x : Warning) → IsWarningOf (variables (of_fn (at 1)) (one_rule 4 (codes "x") ∷ [])) x → ⊥
whole-none x h = go h.rules h.made h.is_warning
  where
    go : (rules : List Rule) → MakeRules (λ y. meaning_of None) (one_rule 4 (codes "x") ∷ []) rules → IsWarning h.world (column h.depth h.type) (holder_of (of_fn (at 1))) rules x → ⊥
    go [] m i = absurd m
    go (r ∷ q ∷ rs) m i = absurd m.2
    go (r ∷ []) m (inl k) = let o = one-of-one r k.1 k.0 k.2 k.3 in wild-needed h.world h.depth h.type k.1 k.0 o.0 (ap (λ r. r.plain) (sym o.1) ∙ m.1) k.5
    go (r ∷ []) m (inr (e, o)) = o.2.0 (subst (λ p. Matches p o.0) (sym m.1) tt)

-- one rule with a constructor: it isn't redundant

module _ (h : Holder Place) (k : ℕ) (x : Warning) (i : IsWarningOf (constructors h (one_rule k (codes "true") ∷ [])) x) where
  open-alone : (rules : List Rule) × IsOpenAt i.world (column i.depth i.type) rules (holder_of h) x
  open-alone = go i.rules i.made i.fit i.is_warning
    where
      go : (rules : List Rule) → MakeRules (λ y. meaning_of (Some (constructor 1 2))) (one_rule k (codes "true") ∷ []) rules → AllFit i.world (column i.depth i.type) rules
          → IsWarning i.world (column i.depth i.type) (holder_of h) rules x → (rules : List Rule) × IsOpenAt i.world (column i.depth i.type) rules (holder_of h) x
      go [] m f w = absurd m
      go (r ∷ q ∷ rs) m f w = absurd m.2
      go (r ∷ []) m f (inr o) = (r ∷ [], o)
      go (r ∷ []) m f (inl a) =
          let o = one-of-one r a.1 a.0 a.2 a.3 in
          absurd (second-needed i.world i.depth i.type a.1 a.0 o.0 (ap (λ r. r.plain) (sym o.1) ∙ m.1) (subst (Fits i.world i.depth i.type) m.1 f.0) a.5)

-- in the world of two constructors the first of them escapes it
escaping : IsOpen booleans (column 1 0) (ruled 4 second ∷ [])
escaping = (OfConstructor 0 Cut, (omega arith, tt), ((λ m. let e : 0 ≡ 1 = m.0 in absurd (omega (arith, e))), tt))

fits : Fits booleans 1 0 second
fits = (refl, omega arith, tt)

-- two rules with a constructor: the second is redundant
second-alone : (x : Warning) → IsWarningOf (constructors (of_handle (at 1)) (one_rule 4 (codes "true") ∷ one_rule 9 (codes "true") ∷ [])) x → x ≡ warning (at 9) P1
second-alone x i = go i.rules i.made i.fit i.is_warning
  where
    go : (rules : List Rule) → MakeRules (λ y. meaning_of (Some (constructor 1 2))) (one_rule 4 (codes "true") ∷ one_rule 9 (codes "true") ∷ []) rules → AllFit i.world (column i.depth i.type) rules
        → IsWarning i.world (column i.depth i.type) (holder_of (of_handle (at 1))) rules x → x ≡ warning (at 9) P1
    go [] m f w = absurd m
    go (q ∷ []) m f w = absurd m.2
    go (q ∷ p ∷ r ∷ rs) m f w = absurd m.2.2
    go (q ∷ p ∷ []) m f (inr o) = absurd o
    go (q ∷ p ∷ []) m f (inl a) = elim (one-of-two q p a.1 a.0 a.2 a.3) [
      | inl o ↦
          absurd (second-needed i.world i.depth i.type a.1 a.0 o.0 (ap (λ r. r.plain) (sym o.1) ∙ m.1) (subst (Fits i.world i.depth i.type) m.1 f.0) a.5)
      | inr o ↦ a.4 ∙ ap (λ p. warning p P1) (ap (λ r. r.place) (sym o.1) ∙ m.2.0)
    ]

-- a match, and a binding, that aren't exhaustive

open-fn : (x : Warning) → IsWarningOf (constructors (of_fn (at 1)) (one_rule 4 (codes "true") ∷ [])) x ↔ x ≡ warning (at 1) P2
open-fn x = (
  λ i. (open-alone (of_fn (at 1)) 4 x i).1.0,
  λ e. record { rules = ruled 4 second ∷ []; made = (refl, refl, tt); world = booleans; depth = 1; type = 0; fit = (fits, tt); is_warning = inr (e, escaping) },
)

open-val : (x : Warning) → IsWarningOf (constructors (of_val (at 5)) (one_rule 5 (codes "true") ∷ [])) x ↔ x ≡ warning (at 5) P3
open-val x = (
  λ i. (open-alone (of_val (at 5)) 5 x i).1.0,
  λ e. record { rules = ruled 5 second ∷ []; made = (refl, refl, tt); world = booleans; depth = 1; type = 0; fit = (fits, tt); is_warning = inr (e, escaping) },
)

pub warning-samples : WarningSamples
unfolding Stands IsStrictlySortedBy
warning-samples = record {
  whole = record { sorted = tt; all = λ x. (λ s. absurd s, λ w. elim w [ inl i ↦ whole-none x i | inr n ↦ n ]) };
  open_match = record {
    sorted = (tt, tt);
    all = λ x. (λ s. elim s [ inl e ↦ inl ((open-fn x).1 e) | inr n ↦ absurd n ], λ w. elim w [ inl i ↦ inl ((open-fn x).0 i) | inr n ↦ absurd n ]);
  };
  open_binding = record {
    sorted = (tt, tt);
    all = λ x. (λ s. elim s [ inl e ↦ inl ((open-val x).1 e) | inr n ↦ absurd n ], λ w. elim w [ inl i ↦ inl ((open-val x).0 i) | inr n ↦ absurd n ]);
  };
  both = record {
    sorted = ((refl, tt), (tt, tt));
    all = λ x. (
      λ s. elim s [
        | inl e ↦ inr (inl ((open-fn x).1 e))
        | inr r ↦ elim r [ inl e ↦ inl ((open-val x).1 e) | inr n ↦ absurd n ]
      ],
      λ w. elim w [
        | inl i ↦ inr (inl ((open-val x).0 i))
        | inr r ↦ elim r [ inl i ↦ inl ((open-fn x).0 i) | inr n ↦ absurd n ]
      ],
    );
  };
  handler = record { sorted = tt; all = λ x. (λ s. absurd s, λ w. elim w [ inl i ↦ (open-alone (of_handle (at 1)) 4 x i).1 | inr n ↦ n ]) };
  redundant = record {
    sorted = (tt, tt);
    all = λ x. (
      λ s. elim s [
        | inl e ↦
            inl (record {
              rules = ruled 4 second ∷ ruled 9 second ∷ [];
              made = (refl, refl, (refl, refl, tt));
              world = booleans;
              depth = 1;
              type = 0;
              fit = (fits, (fits, tt));
              is_warning = inl (ruled 4 second ∷ [], ruled 9 second, [], refl, e, λ s h m k. k.0 m);
            })
        | inr n ↦ absurd n
      ],
      λ w. elim w [ inl i ↦ inl (second-alone x i) | inr n ↦ absurd n ],
    );
  };
}
