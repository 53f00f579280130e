-- What the parts of a phrase bind, each from one token to the next.
use Rattle.std.specs.Prelude.{◌≡◌, ℕ, zero, suc, ◌+◌, ◌-◌, ◌≤◌, nat_lt, length, get_or, List, [], ◌∷◌, ◌++◌, true}
use Rattle.std.proofs.Common.{ap, arith}
use Rattle.sml_lex.specs.declared.token.Kind.TheVariants as K
use Rattle.sml_tree.specs.Trees.{Id}
use Rattle.sml_tree.specs.declared.patterns.ConstantKind.TheVariants.{Real}
use Rattle.sml_read.specs.declared.grammar.Symbol.TheVariants.{Word}
use Rattle.sml_read.specs.declared.grammar.Rule.{Rule}
use Rattle.sml_read.specs.Grammar.{right_side}
use Rattle.sml_phrases.specs.Phrases.{Phrase, name_in, constant_in, at}
use Rattle.sml_flaws.specs.declared.role.Space.{Space}
use Rattle.sml_flaws.specs.declared.role.Space.TheVariants as S
use Rattle.sml_flaws.specs.declared.role.Word as Role
use Rattle.sml_flaws.specs.declared.role.Word.TheVariants as W
use Rattle.sml_flaws.specs.declared.role.Role.{Role as Part}
use Rattle.sml_flaws.specs.declared.role.Role.TheVariants as Q
use Rattle.sml_flaws.specs.Roles.{roles_of}
use Rattle.sml_tree_laws.proofs.Named.{Named, named_wider, named_both}
use Rattle.sml_tree_laws.proofs.PhrasesBound.{plain, class_of, Fits, PhraseBound, phrase_wider}

module _ (B : Space → ℕ → ℕ → Id → Type 0) where
  abbrev pub WordBound : Role.Word → ℕ → ℕ → ℕ → Phrase → Type 0
  WordBound (W.Bound sp) g lo hi v = Named B sp g lo hi ((name_in v).id ∷ [])
  WordBound W.Listed g lo hi v = Named B S.Variables g lo hi ((name_in v).id ∷ [])
  WordBound W.Constant g lo hi v = (constant_in v).kind ≡ Real → ⊥
  WordBound _ g lo hi v = Unit {0}

  abbrev pub RoleBound : Part → ℕ → ℕ → ℕ → Phrase → Type 0
  RoleBound (Q.Word word) g lo hi v = WordBound word g lo hi v
  RoleBound _ g lo hi v = Unit {0}

  module _ (g : ℕ) (t : ℕ → ℕ) where
    abbrev pub PartsBound : Rule → List Phrase → Type 0
    PartsBound rule vs = (k : ℕ) → nat_lt k (length (right_side rule)) ≡ true
        → PhraseBound B (class_of (get_or (right_side rule) k (Word K.Comma))) g (t k) (t (suc k)) (at vs k) × RoleBound (get_or (roles_of rule) k Q.Same) g (t k) (t (suc k)) (at vs k)
        × Fits (class_of (get_or (right_side rule) k (Word K.Comma))) (at vs k)

    module _ (mono : (k : ℕ) → t k ≤ t (suc k)) where
      up : (d a b : ℕ) → b ≡ a + d → t a ≤ t b
      up zero a b e = let same = ap t (let f : a ≡ b = omega (arith, e) in f) in omega (arith, same)
      up (suc d) a zero e = absurd (omega (arith, e))
      up (suc d) a (suc b) e = let l = up d a b (omega (arith, e)) in let m = mono b in omega (arith, l, m)

      pub t_le : (a b : ℕ) → a ≤ b → t a ≤ t b
      t_le a b h = up (b - a) a b (omega (arith, h))

      -- names of one part, and of two, among those of n parts
      pub one : (sp : Space) (a n : ℕ) (xs : List Id) → suc a ≤ n → Named B sp g (t a) (t (suc a)) xs → Named B sp g (t 0) (t n) xs
      one sp a n xs h k = named_wider B sp g (t a) (t (suc a)) (t 0) (t n) xs (t_le 0 a (omega arith)) (t_le (suc a) n h) k

      pub two : (sp : Space) (a b n : ℕ) (xs ys : List Id) → suc a ≤ b → suc b ≤ n → Named B sp g (t a) (t (suc a)) xs → Named B sp g (t b) (t (suc b)) ys → Named B sp g (t 0) (t n) (xs ++ ys)
      two sp a b n xs ys h h' k l =
          named_both B sp g (t 0) (t (suc a)) b' (t n) xs ys (t_le (suc a) b h) (t_le 0 b (omega arith)) (t_le (suc a) n (omega (arith, h, h')))
          (named_wider B sp g (t a) (t (suc a)) (t 0) (t (suc a)) xs (t_le 0 a (omega arith)) (omega arith) k)
          (named_wider B sp g (t b) (t (suc b)) (t b) (t n) ys (omega arith) (t_le (suc b) n h') l)
        where
          b' : ℕ
          b' = t b

      pub pass : (k n : ℕ) (v : Phrase) → suc k ≤ n → PhraseBound B plain g (t k) (t (suc k)) v → PhraseBound B plain g (t 0) (t n) v
      pass k n v h x = phrase_wider B plain g (t k) (t (suc k)) (t 0) (t n) v (t_le 0 k (omega arith)) (t_le (suc k) n h) x
