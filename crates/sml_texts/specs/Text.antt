-- The text of a reply, version 1.
use Rattle.std.specs.Prelude.{ℕ, suc, Bool, true, List, [], ◌∷◌, ◌++◌, cond, Option, Some, None, codes, decimal, length, ◌+◌, ◌/◌, ◌%◌, nat_lt, nat_eq}
use Rattle.sml_lex.specs.declared.fault.Code.{Code}
use Rattle.sml_lex.specs.declared.fault.Code.TheVariants.{L1, L2, L3, L4, L5, L6, S1, S2, S3, F1, F2, F3, F4, G1, G2, G3, G4, G5, U1, U2, U3, U4, U5, U6, U7, E1, E2, E3, E4, E5, E6, E7, E8, E9, E10, N1, N2, N3, N4, N5, N6, N7, M1, M2, M3, M4, M5, M6, M7, Q1, Q2, Q3, P1, P2, P3}
use Rattle.sml_lex.specs.declared.fault.Place.{Place}
use Rattle.sml_lex.specs.declared.fault.Warning.{Warning}
use Rattle.sml_lex.specs.Faults.{Fault}
use Rattle.sml_tree.specs.Trees.{Id}
use Rattle.sml_objects.specs.Canonical.{index_of}
use Rattle.sml_objects.specs.Names.{Naming, Initial, int, word, char, string, bool, exn, real, list, ref}
use Rattle.sml_objects.specs.Maps.{Map}
use Rattle.sml_objects.specs.Objects.{Head, MlType, MlTypes, Scheme, Env, Structures, Sig, arrow, row, name, bound, free, app, no_type, and_type, env, no_structure, and_structure}
use Rattle.sml_rules.specs.Answers.{Answer, refused, accepted}

-- bytes, and names that are still to be numbered
pub data Piece (N : Type 0) : Type 0 where
  byte : ℕ → Piece N
  a_name : N → Piece N

unfoldable pub say : {N : Type 0} → List ℕ → List (Piece N)
say [] = []
say (b ∷ bs) = byte b ∷ say bs

-- 'a to 'z, then 'a1 and so on
unfoldable pub variable : ℕ → List ℕ
variable k = codes "'" ++ (97 + k % 26) ∷ cond (nat_lt k 26) [] (decimal (k / 26))

unfoldable pub joined : {N : Type 0} → List ℕ → List (List (Piece N)) → List (Piece N)
joined between [] = []
joined between (x ∷ []) = x
joined between (x ∷ y ∷ ys) = x ++ (say between ++ joined between (y ∷ ys))

unfoldable pub bracketed : {N : Type 0} → Bool → List (Piece N) → List (Piece N)
bracketed b x = cond b (say (codes "(") ++ (x ++ say (codes ")"))) x

-- in brackets: at level 1 an arrow, at level 2 a tuple too
unfoldable pub show_head : {N : Type 0} → ℕ → Head N → List (List (Piece N)) → List (Piece N)
show_head l arrow ps = bracketed (nat_lt 0 l) (joined (codes " -> ") ps)
show_head l (row ls) [] = say (codes "unit")
show_head l (row ls) (p ∷ ps) = bracketed (nat_lt 1 l) (joined (codes " * ") (p ∷ ps))
show_head l (name n) [] = a_name n ∷ []
show_head l (name n) (p ∷ []) = p ++ (say (codes " ") ++ a_name n ∷ [])
show_head l (name n) (p ∷ q ∷ ps) = bracketed true (joined (codes ", ") (p ∷ q ∷ ps)) ++ (say (codes " ") ++ a_name n ∷ [])

-- the levels of the parts: of the first one, and of the others
unfoldable pub levels : {N : Type 0} → Head N → MlTypes N → ℕ × ℕ
levels arrow ts = (1, 0)
levels (row ls) ts = (2, 2)
levels (name n) (and_type t no_type) = (2, 2)
levels (name n) ts = (0, 0)

unfoldable mutual
  pub show_type : {N : Type 0} → ℕ → MlType N → List (Piece N)
  show_type l (bound k) = say (variable k)
  show_type l (free v) = say (codes "_")
  show_type l (app h ts) = let k : ℕ × ℕ = levels h ts in show_head l h (show_types k.0 k.1 ts)

  pub show_types : {N : Type 0} → ℕ → ℕ → MlTypes N → List (List (Piece N))
  show_types k l no_type = []
  show_types k l (and_type t ts) = show_type k t ∷ show_types l l ts

-- a line: a word, the path and the identifier, a sign, and a type
unfoldable pub line : {N : Type 0} → List ℕ → List ℕ → List ℕ → Id × Scheme N → List (Piece N)
line keyword path sign x = say (keyword ++ (path ++ (x.0 ++ sign))) ++ (show_type 0 x.1.body ++ say (codes "\n"))

unfoldable pub lines : {N : Type 0} → List ℕ → List ℕ → List ℕ → Map (Scheme N) → List (Piece N)
lines keyword path sign [] = []
lines keyword path sign (x ∷ xs) = line keyword path sign x ++ lines keyword path sign xs

-- the lines of an environment whose paths begin so: structures, types and values, each in byte order
unfoldable mutual
  pub show_env : {N : Type 0} → List ℕ → Env N → List (Piece N)
  show_env p (env ss ts vs) = show_structures p ss ++ (lines (codes "  type ") p (codes " = ") ts ++ lines (codes "  val ") p (codes " : ") vs)

  pub show_structures : {N : Type 0} → List ℕ → Structures N → List (Piece N)
  show_structures p no_structure = []
  show_structures p (and_structure s E ss) =
      say (codes "  structure " ++ (p ++ (s ++ codes "\n"))) ++ (show_env (p ++ (s ++ codes ".")) E ++ show_structures p ss)

unfoldable pub initial_text : Initial → List ℕ
initial_text int = codes "int"
initial_text word = codes "word"
initial_text char = codes "char"
initial_text string = codes "string"
initial_text bool = codes "bool"
initial_text exn = codes "exn"
initial_text real = codes "real"
initial_text list = codes "list"
initial_text ref = codes "ref"

module _ {N : Type 0} (names : Naming N) where
  unfoldable pub initial_among : List Initial → N → Option Initial
  initial_among [] n = None
  initial_among (k ∷ ks) n = elim (names.same (names.initial k) n) [ yes _ ↦ Some k | no _ ↦ initial_among ks n ]

  unfoldable pub spell_new : N → ℕ → List ℕ
  spell_new n k = cond (names.attributes n).equality (codes "?=") (codes "?") ++ decimal (suc k)

  -- names are numbered from 1 in the order of their first appearance
  unfoldable pub spell : List N → List (Piece N) → List ℕ
  spell seen [] = []
  spell seen (byte b ∷ ps) = b ∷ spell seen ps
  spell seen (a_name n ∷ ps) =
      elim (initial_among (int ∷ word ∷ char ∷ string ∷ bool ∷ exn ∷ real ∷ list ∷ ref ∷ []) n) [
        | Some k ↦ initial_text k ++ spell seen ps
        | None ↦
            let k : ℕ = index_of names n seen in
            spell_new n k ++ spell (cond (nat_eq k (length seen)) (seen ++ n ∷ []) seen) ps
      ]

  unfoldable pub environment_text : Env N → List ℕ
  environment_text E = spell [] (show_env [] E)

unfoldable pub code_text : Code → List ℕ
code_text L1 = codes "L1"
code_text L2 = codes "L2"
code_text L3 = codes "L3"
code_text L4 = codes "L4"
code_text L5 = codes "L5"
code_text L6 = codes "L6"
code_text S1 = codes "S1"
code_text S2 = codes "S2"
code_text S3 = codes "S3"
code_text F1 = codes "F1"
code_text F2 = codes "F2"
code_text F3 = codes "F3"
code_text F4 = codes "F4"
code_text G1 = codes "G1"
code_text G2 = codes "G2"
code_text G3 = codes "G3"
code_text G4 = codes "G4"
code_text G5 = codes "G5"
code_text U1 = codes "U1"
code_text U2 = codes "U2"
code_text U3 = codes "U3"
code_text U4 = codes "U4"
code_text U5 = codes "U5"
code_text U6 = codes "U6"
code_text U7 = codes "U7"
code_text E1 = codes "E1"
code_text E2 = codes "E2"
code_text E3 = codes "E3"
code_text E4 = codes "E4"
code_text E5 = codes "E5"
code_text E6 = codes "E6"
code_text E7 = codes "E7"
code_text E8 = codes "E8"
code_text E9 = codes "E9"
code_text E10 = codes "E10"
code_text N1 = codes "N1"
code_text N2 = codes "N2"
code_text N3 = codes "N3"
code_text N4 = codes "N4"
code_text N5 = codes "N5"
code_text N6 = codes "N6"
code_text N7 = codes "N7"
code_text M1 = codes "M1"
code_text M2 = codes "M2"
code_text M3 = codes "M3"
code_text M4 = codes "M4"
code_text M5 = codes "M5"
code_text M6 = codes "M6"
code_text M7 = codes "M7"
code_text Q1 = codes "Q1"
code_text Q2 = codes "Q2"
code_text Q3 = codes "Q3"
code_text P1 = codes "P1"
code_text P2 = codes "P2"
code_text P3 = codes "P3"

unfoldable pub meaning : Code → List ℕ
meaning L1 = codes "comment not closed"
meaning L2 = codes "string not closed"
meaning L3 = codes "bad escape or character"
meaning L4 = codes "bad byte"
meaning L5 = codes "literal too large"
meaning L6 = codes "unit too large"
meaning S1 = codes "unexpected token"
meaning S2 = codes "unit ends too early"
meaning S3 = codes "tree too high"
meaning F1 = codes "operator without operand"
meaning F2 = codes "sides mixed at one level"
meaning F3 = codes "fixity level not one digit"
meaning F4 = codes "malformed pattern or clause head"
meaning G1 = codes "clauses with different names"
meaning G2 = codes "clauses with different numbers of arguments"
meaning G3 = codes "bound twice"
meaning G4 = codes "identifier can't be bound"
meaning G5 = codes "real in a pattern"
meaning U1 = codes "types clash"
meaning U2 = codes "circular type"
meaning U3 = codes "type name too new"
meaning U4 = codes "not an equality type"
meaning U5 = codes "not in the overloading class"
meaning U6 = codes "record labels undetermined"
meaning U7 = codes "explicit type variable not general"
meaning E1 = codes "unbound value"
meaning E2 = codes "unbound type"
meaning E3 = codes "unbound structure"
meaning E4 = codes "wrong number of type arguments"
meaning E5 = codes "constructor expected"
meaning E6 = codes "local type escapes"
meaning E7 = codes "type too large"
meaning E8 = codes "type variable out of scope"
meaning E9 = codes "right side of rec isn't a function"
meaning E10 = codes "variable bound twice in a pattern"
meaning N1 = codes "unbound signature"
meaning N2 = codes "repeated specification"
meaning N3 = codes "name not free"
meaning N4 = codes "equality lost"
meaning N5 = codes "constructors lost"
meaning N6 = codes "arities differ"
meaning N7 = codes "constructors differ"
meaning M1 = codes "missing component"
meaning M2 = codes "wrong arity"
meaning M3 = codes "type doesn't admit equality"
meaning M4 = codes "type differs"
meaning M5 = codes "constructors differ"
meaning M6 = codes "value not general enough"
meaning M7 = codes "status differs"
meaning Q1 = codes "unbound functor"
meaning Q2 = codes "exported type undetermined"
meaning Q3 = codes "too many type names"
meaning P1 = codes "rule is redundant"
meaning P2 = codes "match not exhaustive"
meaning P3 = codes "binding not exhaustive"

unfoldable pub detail_text : Option (List ℕ) → List ℕ
detail_text None = []
detail_text (Some bytes) = codes " " ++ bytes

unfoldable pub fault_text : Fault Place → List ℕ
fault_text f =
    codes " fault " ++ (code_text f.code ++ (codes " " ++ (decimal f.place.line ++ (codes "." ++ (decimal f.place.column
    ++ (codes " " ++ (meaning f.code ++ (detail_text f.detail ++ codes "\n"))))))))

unfoldable pub warning_text : Warning → List ℕ
warning_text w =
    codes "  warning " ++ (code_text w.code ++ (codes " " ++ (decimal w.place.line ++ (codes "." ++ (decimal w.place.column
    ++ (codes " " ++ (meaning w.code ++ codes "\n")))))))

-- the reply with the number k
unfoldable pub text : {N : Type 0} (names : Naming N) → ℕ → Answer Place (Sig N) → List ℕ
text names k (refused f) = decimal k ++ fault_text f
text names k (accepted S) = decimal k ++ (codes " ok\n" ++ environment_text names S.body)
