-- Limits in a table that grows.
use Rattle.std.proofs.Common.{◌≡◌, ℕ, zero, suc, ◌≤◌, List, [], ◌∷◌, ◌++◌, length, set, ◌∙◌, ap, refl, arith, length-append}
use Rattle.std.proofs.lemmas.List.{get_or_append_left, map-set}
use Rattle.sml_graph.specs.declared.limits.Limit.{Limit}
use Rattle.sml_graph.specs.Changes.{BeginsWith}
use Rattle.sml_graph.specs.Limits.{no_limit}
use Rattle.sml_graph.specs.CodeLimits.{limit_in, limits_in, AreIn}

limit-more : (ts us : List Limit) (p : ℕ) → p ≤ length ts → limit_in (ts ++ us) p ≡ limit_in ts p
limit-more ts us zero h = refl
limit-more ts us (suc p) h = get_or_append_left ts us no_limit p (omega (arith, h))

limits-more : (ts us : List Limit) (ps : List ℕ) → AreIn (length ts) ps → limits_in (ts ++ us) ps ≡ limits_in ts ps
limits-more ts us [] a = refl
limits-more ts us (p ∷ ps) a = rw (limit-more ts us p a.0, limits-more ts us ps a.1) refl

pub length-more : (ts us : List Limit) → BeginsWith ts us → length ts ≤ length us
length-more ts us b = let e = ap length b.1 ∙ length-append ts b.0 in omega (arith, e)

pub in-more : (n m : ℕ) (ps : List ℕ) → AreIn n ps → n ≤ m → AreIn m ps
in-more n m [] a h = tt
in-more n m (p ∷ ps) a h = (let x = a.0 in omega (arith, x, h), in-more n m ps a.1 h)

pub in-set : (n : ℕ) (ps : List ℕ) (i p : ℕ) → AreIn n ps → p ≤ n → AreIn n (set ps i p)
in-set n [] i p a h = tt
in-set n (q ∷ ps) zero p a h = (h, a.1)
in-set n (q ∷ ps) (suc i) p a h = (a.0, in-set n ps i p a.1 h)

pub limits-set : (ts us : List Limit) (ps : List ℕ) (i p : ℕ) → AreIn (length ts) ps → BeginsWith ts us → limits_in us (set ps i p) ≡ set (limits_in ts ps) i (limit_in us p)
limits-set ts us ps i p a b =
    map-set (limit_in us) ps i p ∙ ap (λ ls. set ls i (limit_in us p)) (ap (λ vs. limits_in vs ps) b.1 ∙ limits-more ts b.0 ps a)
