-- Which names stand in what units export, in what a unit begins with, and in the answers to it.
use Rattle.std.specs.Prelude.{◌≡◌, ℕ, zero, suc, List, [], ◌∷◌, ◌++◌, Option, Some, None, map, get_or}
use mathlib.Core.Logic.{inl, inr}
use Rattle.sml_tree.specs.Structures.{TopDec}
use Rattle.sml_objects.specs.Appearance.{Stands}
use Rattle.sml_objects.proofs.Standing.{left, right}
use Rattle.sml_rules.specs.Answers.{Answer, refused, accepted}
use Rattle.sml_rules.proofs.Within.{last, both}
use Rattle.sml_core_rules.specs.Objects.{Basis, names_map, names_in, names_structures, names_fun_sig, names_sig, names_env, names_basis}
use Rattle.sml_core_rules.specs.States.{Scope}
use Rattle.sml_module_rules.specs.Structures.{Added, nothing, add_basis}
use Rattle.sml_module_rules.specs.Programs.{basis_after, AreReadings, Pair, same, structures, functors, shown, all_shown}
use Rattle.sml_module_rules.specs.Projects.{Exports, after_all, with_needs, beginning}
use Rattle.sml_module_rules.proofs.Grown.{every-stands, stands-every, in-sum, IsWhole, whole-sum}
use Rattle.sml_module_rules.proofs.Programs.{IsAddition, answer-added}

-- an object mentions these names alone
abbrev pub Mentions : {N : Type 0} → Basis N → List N → Type 0
Mentions {N} B ns = (n : N) → Stands n (names_basis B) → Stands n ns

unfoldable pub EachMentions : {N : Type 0} → List (Basis N) → List N → Type 0
EachMentions [] ns = Unit {0}
EachMentions (A ∷ As) ns = Mentions A ns × EachMentions As ns

either : {N : Type 0} (C : Type 0) (n : N) (xs ys : List N) → (Stands n xs → C) → (Stands n ys → C) → Stands n (xs ++ ys) → C
unfolding Stands
either C n [] ys f g h = g h
either C n (x ∷ xs) ys f g (inl e) = f (inl e)
either C n (x ∷ xs) ys f g (inr h) = either C n xs ys (λ k. f (inr k)) g h

module _ {N : Type 0} (ns : List N) where
  pub nothing-mentions : Mentions nothing ns
  unfolding Stands names_in names_structures
  nothing-mentions n h = absurd h

  sum-mentions : (B A : Basis N) → Mentions B ns → Mentions A ns → Mentions (add_basis B A) ns
  sum-mentions B A h k =
      let P : N → Type 0 = λ n. Stands n ns in stands-every P (names_basis (add_basis B A)) (in-sum P B A (every-stands P (names_basis B) h) (every-stands P (names_basis A) k))

  one-mentions : (us : List (Basis N)) (k : ℕ) → EachMentions us ns → Mentions (get_or us k nothing) ns
  unfolding EachMentions
  one-mentions [] k h = nothing-mentions
  one-mentions (A ∷ us) zero h = h.0
  one-mentions (A ∷ us) (suc k) h = one-mentions us k h.1

  needs-mention : (B : Basis N) (us : List (Basis N)) (ks : List ℕ) → Mentions B ns → EachMentions us ns → Mentions (with_needs B us ks) ns
  needs-mention B us [] h e = h
  needs-mention B us (k ∷ ks) h e = needs-mention (add_basis B (get_or us k nothing)) us ks (sum-mentions B (get_or us k nothing) h (one-mentions us k e)) e

pub more-mention : {N : Type 0} (us : List (Basis N)) (ns ms : List N) → ((n : N) → Stands n ns → Stands n ms) → EachMentions us ns → EachMentions us ms
unfolding EachMentions
more-mention [] ns ms f h = tt
more-mention (A ∷ us) ns ms f h = ((λ n s. f n (h.0 n s)), more-mention us ns ms f h.1)

pub and-mentions : {N : Type 0} (us : List (Basis N)) (A : Basis N) (ns : List N) → EachMentions us ns → Mentions A ns → EachMentions (us ++ A ∷ []) ns
unfolding EachMentions
and-mentions [] A ns h k = (k, tt)
and-mentions (B ∷ us) A ns h k = (h.0, and-mentions us A ns h.1 k)

-- what a unit begins with mentions names that were made
pub beginning-whole : {N : Type 0} (I : Basis N) (E : Exports N) (ks : List ℕ) → Mentions I E.names → EachMentions E.units E.names → IsWhole (beginning I E ks)
beginning-whole {N} I E ks h e =
    let B = with_needs I E.units ks in
    let P : N → Type 0 = λ n. Stands n E.names in
    let a = every-stands P (names_basis B) (needs-mention E.names I E.units ks h e) in
    let rest = names_map names_fun_sig B.functors ++ (names_map names_sig B.signatures ++ names_env B.body) in
    stands-every P (E.names ++ rest) (both P E.names rest (every-stands P E.names (λ n s. s)) (last P B.names rest a))

-- what stands in shown answers
unfoldable pub ShownMention : {P N : Type 0} → List (Option (Answer P (Added P N))) → List N → Type 0
ShownMention [] ns = Unit {0}
ShownMention (None ∷ os) ns = ShownMention os ns
ShownMention (Some (refused f) ∷ os) ns = ShownMention os ns
ShownMention (Some (accepted A) ∷ os) ns = Mentions A.basis ns × ShownMention os ns

-- what shown answers add
abbrev pub after_shown : {P N : Type 0} → Basis N → List (Option (Answer P (Added P N))) → Basis N
after_shown B [] = B
after_shown B (None ∷ os) = after_shown B os
after_shown B (Some o ∷ os) = after_shown (basis_after B o) os

keep-refused : {P N : Type 0} (d : Pair P) (f : _) (os : List (Option (Answer P (Added P N)))) (ns : List N) → ShownMention os ns → ShownMention (shown d (refused f) ∷ os) ns
unfolding ShownMention
keep-refused (same p d) f os ns h = h
keep-refused (structures p q bs) f os ns h = h
keep-refused (functors p q bs) f os ns h = h

keep-accepted : {P N : Type 0} (d : Pair P) (A : Added P N) (os : List (Option (Answer P (Added P N)))) (ns : List N) → Mentions A.basis ns → ShownMention os ns → ShownMention (shown d (accepted A) ∷ os) ns
unfolding ShownMention
keep-accepted (same p d) A os ns h k = (h, k)
keep-accepted (structures p q bs) A os ns h k = (h, k)
keep-accepted (functors p q bs) A os ns h k = (h, k)

module _ {P N : Type 0} (scope : Scope N) (side : Pair P → P × TopDec P) where
  pub exported-shown : (ds : List (Pair P)) (B X : Basis N) (os : List (Answer P (Added P N))) → AreReadings scope B (map side ds) os → after_shown X (all_shown ds os) ≡ after_all X os
  unfolding AreReadings
  exported-shown [] B X [] h = λ i. X
  exported-shown [] B X (o ∷ os) h = absurd h
  exported-shown (d ∷ ds) B X [] h = absurd h
  exported-shown (same p d ∷ ds) B X (o ∷ os) h = exported-shown ds (basis_after B o) (basis_after X o) os h.1
  exported-shown (structures p q bs ∷ ds) B X (refused f ∷ os) h = exported-shown ds B X os h.1
  exported-shown (structures p q bs ∷ ds) B X (accepted A ∷ os) h = exported-shown ds (add_basis B A.basis) (add_basis X A.basis) os h.1
  exported-shown (functors p q bs ∷ ds) B X (refused f ∷ os) h = exported-shown ds B X os h.1
  exported-shown (functors p q bs ∷ ds) B X (accepted A ∷ os) h = exported-shown ds (add_basis B A.basis) (add_basis X A.basis) os h.1

  -- what shown answers mention, and what they add to what came before: names that were made there, or before all of it
  pub shown-mention : (T : List N) (ds : List (Pair P)) (B X : Basis N) → IsWhole B → Mentions X (X.names ++ T) → ((n : N) → Stands n B.names → Stands n (X.names ++ T))
      → (os : List (Answer P (Added P N))) → AreReadings scope B (map side ds) os
      → Mentions (after_all X os) ((after_all X os).names ++ T) × ShownMention (all_shown ds os) ((after_all X os).names ++ T)
      × ((n : N) → Stands n X.names → Stands n (after_all X os).names)
  unfolding AreReadings ShownMention
  shown-mention T [] B X w h b [] r = (h, tt, λ n s. s)
  shown-mention T [] B X w h b (o ∷ os) r = absurd r
  shown-mention T (d ∷ ds) B X w h b [] r = absurd r
  shown-mention T (d ∷ ds) B X w h b (refused f ∷ os) r =
      let a = shown-mention T ds B X w h b os r.1 in (a.0, keep-refused d f (all_shown ds os) ((after_all X os).names ++ T) a.1, a.2)
  shown-mention T (d ∷ ds) B X w h b (accepted A ∷ os) r =
      let E = A.basis in
      let c : IsAddition {P = P} B (accepted A) = answer-added scope B (side d).0 (side d).1 (accepted A) r.0 in
      let own : List N = E.names ++ X.names in
      let old : (n : N) → Stands n (X.names ++ T) → Stands n (own ++ T) =
      λ n s. either (Stands n (own ++ T)) n X.names T (λ k. left n own T (right n E.names X.names k)) (λ k. right n own T k) s in
      let new : (n : N) → Stands n (E.names ++ B.names) → Stands n (own ++ T) =
      λ n s. either (Stands n (own ++ T)) n E.names B.names (λ k. left n own T (left n E.names X.names k)) (λ k. old n (b n k)) s in
      let x = sum-mentions (own ++ T) X E (λ n s. old n (h n s)) (λ n s. new n (c n s)) in
      let a = shown-mention T ds (add_basis B E) (add_basis X E) (whole-sum B E w c) x new os r.1 in
      let all : List N = (after_all (add_basis X E) os).names in
      let there : Mentions E (all ++ T) = λ n s. either (Stands n (all ++ T)) n own T (λ k. left n all T (a.2 n k)) (λ k. right n all T k) (new n (c n s)) in
      (a.0, keep-accepted d A (all_shown ds os) (all ++ T) there a.1, λ n s. a.2 n (right n E.names X.names s))
