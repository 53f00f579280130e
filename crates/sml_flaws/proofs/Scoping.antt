-- Scopes of type variables.
use Rattle.std.proofs.Common.{◌≡◌, ℕ, suc, ◌+◌, ◌<◌, ◌≤◌, max, Bool, true, false, cond, ◌&&◌, ◌||◌, nat_lt, List, [], ◌∷◌, ◌++◌, Option, Some, None, unwrap_or, get_or, take, drop, length, refl, sym, ap, subst, ◌∙◌, append_assoc, arith}
use Rattle.std.specs.Cmp.Lexicographic.{nat_list_eq_equiv}
use Rattle.std.specs.List.{All, cons_option, filter_map, list_any}
use Rattle.std.specs.Map.{lookup}
use Rattle.std.specs.Option.{option_map}
use Rattle.std.specs.Str.{bytes_eq}
use Rattle.std.proofs.lemmas.Bool.{cond-true, cond-false}
use Rattle.std.proofs.lemmas.Bool.Decides.{nat_tests}
use Rattle.std.proofs.lemmas.List.{take-append-drop, take_more, drop_more, get_or-drop, get_or_default, length-drop}
use Rattle.std.specs.List.Sorted.{IsNonDecreasingBy}
use Rattle.std.proofs.lemmas.List.Elements.{All-more}
use Rattle.std.proofs.lemmas.List.Folds.{list_any-append}
use Rattle.std.proofs.lemmas.List.Sorted.{list_any-IsPermutation}
use Rattle.std.proofs.lemmas.Slice.Eq.{bytes_eq-Decides}
use Rattle.sml_tree.specs.Trees.{Id}
use Rattle.sml_flaws.specs.declared.mark.Owned.{Owned}
use Rattle.sml_flaws.specs.declared.mark.Mark.{Mark}
use Rattle.sml_flaws.specs.declared.mark.Mark.TheVariants as M
use Rattle.sml_flaws.specs.Flaws.{lies_in, is_outer, scoped_at, scoped_of}
use Rattle.sml_flaws.specs.declared.flaw.Flaw.{Flaw}
use Rattle.sml_flaws.specs.CodeScopes.{owned_in, AreOwned, ends_after, is_round, KnowsPassed, KnowsReaches}
use Rattle.sml_flaws.specs.declared.scopes.Passed.{Passed}

max_test : (n a b : ℕ) → nat_lt n (max a b) ≡ (nat_lt n a || nat_lt n b)
max_test n a b = grind (arith, nat_tests)

and_true : (a b c : Bool) → c ≡ true → (a || b) ≡ (a || (b && c))
and_true true b c e = refl
and_true false true c e = sym e
and_true false false c e = refl

or_false : (a b c : Bool) → c ≡ false → a ≡ (a || (b && c))
or_false true b c e = refl
or_false false true c e = sym e
or_false false false c e = refl

pub or_none : (a b : Bool) → b ≡ false → (a || b) ≡ a
or_none true b e = refl
or_none false b e = e

-- the last end of the scopes of one name is raised
pub reach_on : (last : Id → Option ℕ) (any : Id → Bool) (name other : Id) (node end : ℕ) → ((q : Id) → nat_lt node (unwrap_or (last q) 0) ≡ any q)
    → nat_lt node (unwrap_or (cond (bytes_eq name other) (Some (max (unwrap_or (last name) 0) end)) (last other)) 0) ≡ (any other || (nat_lt node end && bytes_eq other name))
reach_on last any name other node end known = by_test (bytes_eq name other) refl
  where
    turned : bytes_eq name other ≡ bytes_eq other name
    turned = nat_list_eq_equiv.symm name other

    by_test : (b : Bool) → bytes_eq name other ≡ b → nat_lt node (unwrap_or (cond (bytes_eq name other) (Some (max (unwrap_or (last name) 0) end)) (last other)) 0) ≡ (any other || (nat_lt node end && bytes_eq other name))
    by_test true e =
        ap (λ o. nat_lt node (unwrap_or o 0)) (cond-true (bytes_eq name other) (Some (max (unwrap_or (last name) 0) end)) (last other) e)
        ∙ max_test node (unwrap_or (last name) 0) end
        ∙ ap (λ b. b || nat_lt node end) (known name ∙ ap any ((bytes_eq-Decides name other).0 e))
        ∙ and_true (any other) (nat_lt node end) (bytes_eq other name) (sym turned ∙ e)
    by_test false e =
        ap (λ o. nat_lt node (unwrap_or o 0)) (cond-false (bytes_eq name other) (Some (max (unwrap_or (last name) 0) end)) (last other) e)
        ∙ known other
        ∙ or_false (any other) (nat_lt node end) (bytes_eq other name) (sym turned ∙ e)

first_of : (P : Owned → Type 0) (v : Owned) (owned : List Owned) → All P (v ∷ owned) → P v
first_of P v owned all = all 0 v (omega arith)

others_of : (P : Owned → Type 0) (v : Owned) (owned : List Owned) → All P (v ∷ owned) → All P owned
others_of P v owned all = λ k d w. all (suc k) d (omega (arith, w))

below : (a b : ℕ) → a < b → nat_lt a b ≡ true
below a b w = grind (arith, nat_tests)

not_below : (a b : ℕ) → b ≤ a → nat_lt a b ≡ false
not_below a b w = grind (arith, nat_tests)

module _ (text : ℕ → Id) (ends : List ℕ) (name : Id) (node : ℕ) where
  -- the scopes of declarations before a node are round it if they end after it
  pub before_all : (owned : List Owned) → All (λ v. v.owner < node) owned → list_any (is_round text ends name node) owned ≡ list_any (ends_after text ends name node) owned
  before_all [] all = refl
  before_all (v ∷ owned) all =
      ap (λ b. (b && ends_after text ends name node v) || list_any (is_round text ends name node) owned) (below v.owner node (first_of (λ v. v.owner < node) v owned all))
      ∙ ap (λ b. ends_after text ends name node v || b) (before_all owned (others_of (λ v. v.owner < node) v owned all))

  -- those of declarations after it aren't
  pub after_all : (owned : List Owned) → All (λ v. node ≤ v.owner) owned → list_any (is_round text ends name node) owned ≡ false
  after_all [] all = refl
  after_all (v ∷ owned) all =
      ap (λ b. (b && ends_after text ends name node v) || list_any (is_round text ends name node) owned) (not_below v.owner node (first_of (λ v. node ≤ v.owner) v owned all))
      ∙ after_all owned (others_of (λ v. node ≤ v.owner) v owned all)

  -- so those of the declarations before it tell
  pub passed_all : (owned : List Owned) (count : ℕ) → All (λ v. v.owner < node) (take count owned) → All (λ v. node ≤ v.owner) (drop count owned) → list_any (ends_after text ends name node) (take count owned) ≡ list_any (is_round text ends name node) owned
  passed_all owned count before after =
      sym (before_all (take count owned) before)
      ∙ sym (or_none (list_any (is_round text ends name node) (take count owned)) (list_any (is_round text ends name node) (drop count owned)) (after_all (drop count owned) after))
      ∙ sym (list_any-append (is_round text ends name node) (take count owned) (drop count owned))
      ∙ ap (list_any (is_round text ends name node)) (take-append-drop count owned)

and_assoc : (a b c : Bool) → ((a && b) && c) ≡ (a && (b && c))
and_assoc true b c = refl
and_assoc false b c = refl

-- the variables of value declarations among the marks
module _ (text : ℕ → Id) (ends : List ℕ) (node token : ℕ) where
  owner_all : (owner : Option ℕ) (t : ℕ) (any : Bool) (owned : List Owned) → any ≡ list_any (is_round text ends (text token) node) owned
      → ((lies_in ends owner node && bytes_eq (text token) (text t)) || any) ≡ list_any (is_round text ends (text token) node) (cons_option (option_map (λ o. record { owner = o; token = t }) owner) owned)
  owner_all None t any owned e = e
  owner_all (Some o) t any owned e =
      ap (λ b. b || any) (and_assoc (nat_lt o node) (nat_lt node (get_or ends o 0)) (bytes_eq (text token) (text t)))
      ∙ ap (λ b. (nat_lt o node && (nat_lt node (get_or ends o 0) && bytes_eq (text token) (text t))) || b) e

  pub outer_all : (marks : List Mark) → list_any (is_outer text ends node token) marks ≡ list_any (is_round text ends (text token) node) (filter_map owned_in marks)
  outer_all [] = refl
  outer_all (M.Listed v ∷ marks) = owner_all v.owner v.token _ (filter_map owned_in marks) (outer_all marks)
  outer_all (M.Owned v ∷ marks) = owner_all (Some v.owner) v.token _ (filter_map owned_in marks) (outer_all marks)
  outer_all (_ ∷ marks) = outer_all marks

  pub scoped_by_owned : (marks : List Mark) (owned : List Owned) (here : Bool) → AreOwned marks owned → here ≡ list_any (is_round text ends (text token) node) owned → here ≡ list_any (is_outer text ends node token) marks
  scoped_by_owned marks owned here all e =
      e ∙ sym (list_any-IsPermutation (is_round text ends (text token) node) (filter_map owned_in marks) owned all.same) ∙ sym (outer_all marks)

-- the fault of one mark after another
one_more : (flaw : Option Flaw) (more : List Flaw) → cons_option flaw [] ++ more ≡ cons_option flaw more
one_more None more = refl
one_more (Some flaw) more = refl

pub scoped_on : (text : ℕ → Id) (ends : List ℕ) (every marks : List Mark) (all old new : List Flaw) (i : ℕ) (d : Mark) (flaw : Option Flaw) → all ≡ old ++ scoped_of text ends every (drop i marks) → i < length marks
    → new ≡ old ++ cons_option flaw [] → flaw ≡ scoped_at text ends every (get_or marks i d) → all ≡ new ++ scoped_of text ends every (drop (i + 1) marks)
scoped_on text ends every marks all old new i d flaw kept within n f =
    let more = scoped_of text ends every (drop (i + 1) marks) in
    kept ∙ ap (λ ms. old ++ scoped_of text ends every ms) (drop_more marks i d within)
    ∙ ap (λ x. old ++ cons_option x more) (sym f)
    ∙ ap (λ fs. old ++ fs) (sym (one_more flaw more))
    ∙ sym (append_assoc old (cons_option flaw []) more)
    ∙ ap (λ fs. fs ++ more) (sym n)

-- what is passed
module _ (text : ℕ → Id) (ends : List ℕ) (owned : List Owned) where
  pub none_passed : (node : ℕ) (passed : Passed) → passed.count ≡ 0 → passed.reaches.entries ≡ [] → KnowsPassed text ends owned (record { node = node; count = passed.count; reaches = passed.reaches })
  none_passed node passed none empty = record {
    within = omega (arith, none);
    before = subst (λ n. All (λ v. v.owner < node) (take n owned)) (sym none) (λ k d w. absurd (omega (arith, w)));
    reaches = λ name n. ap (λ es. nat_lt n (unwrap_or (lookup (λ k. bytes_eq name k.now) es) 0)) empty ∙ not_below n 0 (omega arith) ∙ ap (λ m. list_any (ends_after text ends name n) (take m owned)) (sym none);
  }

  pub later_node : (node : ℕ) (passed : Passed) → passed.node ≤ node → KnowsPassed text ends owned passed → KnowsPassed text ends owned (record { node = node; count = passed.count; reaches = passed.reaches })
  later_node node passed later known = record {
    within = known.within;
    before = λ k d w. omega (arith, known.before k d w, later);
    reaches = known.reaches;
  }

  pub one_passed : (passed new : Passed) (v d : Owned) → new.node ≡ passed.node → new.count ≡ passed.count + 1 → passed.count < length owned → get_or owned passed.count d ≡ v → v.owner < passed.node → KnowsPassed text ends owned passed → KnowsReaches text ends (take passed.count owned ++ v ∷ []) new.reaches → KnowsPassed text ends owned new
  one_passed passed new v d same more within here before known reaches =
      let e : take new.count owned ≡ take passed.count owned ++ v ∷ [] = ap (λ n. take n owned) more ∙ take_more owned passed.count d within ∙ ap (λ x. take passed.count owned ++ x ∷ []) here in
      record {
        within = omega (arith, more, within);
        before = subst (λ n. All (λ v. v.owner < new.node) (take n owned)) (sym more)
            (subst (λ n. All (λ v. v.owner < n) (take (passed.count + 1) owned)) (sym same)
            (All-more (λ v. v.owner < passed.node) owned passed.count d within known.before (subst (λ x. x.owner < passed.node) (sym here) before)));
        reaches = subst (λ vs. KnowsReaches text ends vs new.reaches) (sym e) reaches;
      }

-- the declarations from the first that doesn't begin before the node
pub rest_after : (owned : List Owned) (count node : ℕ) (v : Owned) → IsNonDecreasingBy (λ v. v.owner) owned → count < length owned → v ≡ get_or owned count v → node ≤ v.owner → All (λ v. node ≤ v.owner) (drop count owned)
rest_after owned count node v ascending within here after k d w =
    let far : count + k < length owned = omega (arith, simp length-drop at w) in
    let up : (get_or owned count d).owner ≤ (get_or owned (count + k) d).owner = ascending count (count + k) d (omega arith) far in
    let first : v.owner ≡ (get_or owned count d).owner = ap (λ x. x.owner) (here ∙ get_or_default owned count v d within) in
    let there : (get_or (drop count owned) k d).owner ≡ (get_or owned (count + k) d).owner = ap (λ x. x.owner) (get_or-drop count owned k d) in
    omega (arith, up, first, there, after)
