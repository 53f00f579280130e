-- The text of the lines of a reply. A name prints as its path, where it is given one; the other names are numbered in the order in
-- which they are printed first.
use Rattle.std.specs.Prelude.{ℕ, zero, suc, Bool, true, false, ◌&&◌, nat_eq, nat_lt, cond, List, [], ◌∷◌, ◌++◌, length, codes, decimal, slice_index_or, Option, Some, None}
use Rattle.std.specs.List.{flat_map}
use Rattle.sml_lex.specs.declared.fault.Place.{Place}
use Rattle.sml_lex.specs.declared.fault.Warning.{Warning}
use Rattle.sml_tree.specs.Trees.{Id}
use Rattle.sml_objects.specs.Appearance.{stands}
use Rattle.sml_objects.specs.Canonical.{index_of}
use Rattle.sml_objects.specs.Maps.{Map}
use Rattle.sml_objects.specs.Names.{Naming, int, word, char, string, bool, exn, real, list, ref}
use Rattle.sml_objects.specs.Objects.{Head, MlType, MlTypes, Scheme, arrow, row, name, bound, free, app, no_type, and_type}
use Rattle.sml_objects.specs.Types.{instance_from, variables_after, index_among}
use Rattle.sml_rules.specs.Answers.{Answer, refused, accepted, dotted}
use Rattle.sml_texts.specs.Text as T
use Rattle.sml_texts.specs.Text.{Piece, byte, a_name, say, variable, joined, bracketed, initial_text, initial_among, fault_text, warning_text}
use Rattle.sml_core_rules.specs.Lookups.{is_same}
use Rattle.sml_core_rules.specs.Objects.{Value, TyStr, Basis, Status, variable as a_variable, constructor, exception, overloaded}
use Rattle.sml_module_rules.specs.Lines.{Component, a_structure, a_type, a_value, path_of}
use Rattle.sml_text_rules.specs.BasisLines.{BasisLine, of_env, of_signature, of_functor, basis_lines, bound_names}

-- the labels are the numbers from k on
abbrev pub are_counted : ℕ → List Id → Bool
are_counted k [] = true
are_counted k (l ∷ ls) = is_same l (decimal k) && are_counted (suc k) ls

-- two parts at least, with the numbers from 1 on
abbrev pub is_tuple : List Id → Bool
is_tuple ls = nat_lt 1 (length ls) && are_counted 1 ls

abbrev pub fields : {N : Type 0} → List Id → List (List (Piece N)) → List (List (Piece N))
fields [] ps = []
fields (l ∷ ls) [] = []
fields (l ∷ ls) (p ∷ ps) = (say (l ++ codes " : ") ++ p) ∷ fields ls ps

-- a row, in brackets at level 2 where it is a tuple
abbrev pub row_pieces : {N : Type 0} → ℕ → List Id → List (List (Piece N)) → List (Piece N)
row_pieces level [] ps = say (codes "unit")
row_pieces level (l ∷ ls) ps =
    cond (is_tuple (l ∷ ls)) (bracketed (nat_lt 1 level) (joined (codes " * ") ps)) (say (codes "{") ++ (joined (codes ", ") (fields (l ∷ ls) ps) ++ say (codes "}")))

abbrev pub head_pieces : {N : Type 0} → ℕ → Head N → List (List (Piece N)) → List (Piece N)
head_pieces level arrow ps = T.show_head level arrow ps
head_pieces level (row ls) ps = row_pieces level ls ps
head_pieces level (name n) ps = T.show_head level (name n) ps

-- the levels of the parts: of the first one, and of the others
abbrev pub part_levels : {N : Type 0} → Head N → MlTypes N → ℕ × ℕ
part_levels arrow ts = T.levels arrow ts
part_levels (row ls) ts = cond (is_tuple ls) (2, 2) (0, 0)
part_levels (name n) ts = T.levels (name n) ts

-- A type at a level, with what is printed for its variables.
unfoldable mutual
  pub type_pieces : {N : Type 0} → (ℕ → List ℕ) → ℕ → MlType N → List (Piece N)
  type_pieces v level (bound k) = say (v k)
  type_pieces v level (free k) = say (codes "_")
  type_pieces v level (app h ts) = let l : ℕ × ℕ = part_levels h ts in head_pieces level h (types_pieces v l.0 l.1 ts)

  pub types_pieces : {N : Type 0} → (ℕ → List ℕ) → ℕ → ℕ → MlTypes N → List (List (Piece N))
  types_pieces v first others no_type = []
  types_pieces v first others (and_type t ts) = type_pieces v first t ∷ types_pieces v others others ts

-- The variables of a scheme are named in the order in which they are printed first, with a second prime where they admit equality.
abbrev pub variable_name : Bool → ℕ → List ℕ
variable_name true k = codes "'" ++ variable k
variable_name false k = variable k

abbrev pub scheme_pieces : {N : Type 0} → Scheme N → List (Piece N)
scheme_pieces σ = type_pieces (λ k. variable_name (slice_index_or σ.variables k false) (index_among k (variables_after [] (instance_from 0 σ.body)))) 0 σ.body

-- so many variables from k on
abbrev pub variables_from : {N : Type 0} → ℕ → ℕ → List (List (Piece N))
variables_from k zero = []
variables_from k (suc n) = say (variable k) ∷ variables_from (suc k) n

-- the parameters of a type function, by position
abbrev pub parameters : {N : Type 0} → ℕ → List (Piece N)
parameters n = bracketed (nat_lt 1 n) (joined (codes ", ") (variables_from 0 n)) ++ cond (nat_lt 0 n) (say (codes " ")) []

abbrev pub type_word : {X : Type 0} → Map X → List ℕ
type_word [] = codes "  type "
type_word (c ∷ cs) = codes "  datatype "

abbrev pub value_word : Status → List ℕ
value_word a_variable = codes "  val "
value_word (constructor k n) = codes "  con "
value_word exception = codes "  exception "
value_word (overloaded c) = codes "  val "

-- a word and an identifier before its type
abbrev pub typed_line : {N : Type 0} → List ℕ → Scheme N → List (Piece N)
typed_line front σ = say (front ++ codes " : ") ++ (scheme_pieces σ ++ say (codes "\n"))

abbrev pub component_pieces : {N : Type 0} → List ℕ → Component (TyStr N) (Value N) → List (Piece N)
component_pieces path a_structure = say (codes "  structure " ++ (path ++ codes "\n"))
component_pieces path (a_type t) =
    say (type_word t.constructors) ++ (parameters (length t.function.variables) ++ (say (path ++ codes " = ") ++ (type_pieces variable 0 t.function.body
    ++ (say (codes "\n") ++ flat_map (λ c. typed_line (codes "  | " ++ c.0) c.1) t.constructors))))
component_pieces path (a_value v) = typed_line (value_word v.status ++ path) v.scheme

abbrev pub line_pieces : {N : Type 0} → BasisLine N → List (Piece N)
line_pieces (of_env l) = component_pieces (dotted (path_of l.0)) l.1
line_pieces (of_signature x) = say (codes "  signature " ++ (x ++ codes "\n"))
line_pieces (of_functor x) = say (codes "  functor " ++ (x ++ codes "\n"))

abbrev pub basis_pieces : {N : Type 0} → Basis N → List (Piece N)
basis_pieces B = flat_map line_pieces (basis_lines B)

-- What stands before the number of a name, where these are bound by signatures and functors.
abbrev pub mark : (is_bound equality : Bool) → List ℕ
mark false false = codes "?"
mark false true = codes "?="
mark true false = codes "%"
mark true true = codes "%="

module _ {N : Type 0} (names : Naming N) (path : N → Option (List Id)) (bound : List N) where
  abbrev pub numbered : N → ℕ → List ℕ
  numbered n k = mark (stands names n bound) (names.attributes n).equality ++ decimal (suc k)

  -- Pieces after others in which these names were numbered.
  unfoldable pub spell : List N → List (Piece N) → List ℕ
  spell seen [] = []
  spell seen (byte b ∷ ps) = b ∷ spell seen ps
  spell seen (a_name n ∷ ps) =
      elim (initial_among names (int ∷ word ∷ char ∷ string ∷ bool ∷ exn ∷ real ∷ list ∷ ref ∷ []) n) [
        | Some k ↦ initial_text k ++ spell seen ps
        | None ↦ elim (path n) [
          | Some p ↦ dotted p ++ spell seen ps
          | None ↦
              let k : ℕ = index_of names n seen in
              numbered n k ++ spell (cond (nat_eq k (length seen)) (seen ++ n ∷ []) seen) ps
        ]
      ]

-- The lines of what a declaration binds: the first version, in which no name has a path, and the second, with paths.
abbrev pub lines_text : {N : Type 0} → Naming N → (N → Option (List Id)) → Basis N → List ℕ
lines_text names path B = spell names path (bound_names B) [] (basis_pieces B)

abbrev pub no_path : {N : Type 0} → N → Option (List Id)
no_path n = None

-- What a declaration is answered, with its warnings.
abbrev pub Answered : Type 0 → Type 0
Answered N = Answer Place (Basis N × List Warning)

-- the text of the reply with this number, with its warnings where they are asked for
abbrev pub answer_text : {N : Type 0} → Naming N → (N → Option (List Id)) → Bool → ℕ → Answered N → List ℕ
answer_text names path asked k (refused f) = decimal k ++ fault_text f
answer_text names path asked k (accepted r) =
    decimal k ++ (codes " ok\n" ++ (lines_text names path r.0 ++ cond asked (flat_map warning_text r.1) []))
