-- The derived forms (the Definition, appendix A), one line each. A form takes the place of the whole phrase, or finds
-- it at the identifier with which the phrase begins.
use Rattle.std.specs.Prelude.{ℕ, zero, suc, List, [], ◌∷◌, true, Option, Some, None}
use Rattle.sml_tree.specs.Trees.{Id}
use Rattle.sml_tree.specs.Names.{Name, LongName}
use Rattle.sml_tree.specs.Types.{Ty}
use Rattle.sml_tree.specs.Patterns.{Pat, Pats, PatField, wildcard, pat_name, pat_row, pat_tuple, pat_apply, pat_typed, pat_as, no_pat, and_pat, pat_field, no_pat_field, and_pat_field}
use Rattle.sml_tree.specs.Expressions.{Exp, Exps, Rules, Dec, ValBind, name, tuple, let_in, bracket, apply, fn, no_exp, and_exp, rule, no_rule, and_rule, val_dec, open_dec, no_dec, and_dec, bind, no_bind, and_bind, TypBind}
use Rattle.sml_tree.specs.Signatures.{SigExp, Spec, Specs, WhereType, sig_end, sig_name, where_type, type_spec, include_spec, no_spec, and_spec}
use Rattle.sml_tree.specs.Structures.{StrExp, StrDecs, StrBind, FunBind, struct_end, ascribed, functor_apply, str_let, core_dec, no_str_dec, and_str_dec, str_bind}
use Rattle.sml_tree.specs.declared.structures.Ascription.{Ascription}
use Rattle.sml_tree.specs.Clauses.{Clause, clause_rules}
use Rattle.sml_derived.specs.Words.{true_id, false_id, nil_id, cons_id, it_id, hidden, v}

-- an identifier as a long one
abbrev pub long : {P : Type 0} → Name P → LongName P
long x = record { place = x.place; id = record { path = []; last = x.id } }

-- an identifier that a form writes
abbrev pub written : {P : Type 0} → P → Id → LongName P
written p x = record { place = p; id = record { path = []; last = x } }

abbrev pub var : {P : Type 0} → P → Id → Exp P
var p x = name p (written p x)

abbrev pub pat_var : {P : Type 0} → P → Id → Pat P
pat_var p x = pat_name p (written p x)

abbrev pub one_rule : {P : Type 0} → P → Pat P → Exp P → Rules P
one_rule p q e = and_rule (rule p q e) no_rule

abbrev pub pair : {P : Type 0} → P → Exp P → Exp P → Exp P
pair p a b = tuple p (and_exp a (and_exp b no_exp))

abbrev pub pat_pair : {P : Type 0} → P → Pat P → Pat P → Pat P
pat_pair p a b = pat_tuple p (and_pat a (and_pat b no_pat))

-- `()`
abbrev pub unit : {P : Type 0} → P → Exp P
unit p = tuple p no_exp

abbrev pub pat_unit : {P : Type 0} → P → Pat P
pat_unit p = pat_tuple p no_pat

-- `#l`
abbrev pub select : {P : Type 0} → P → Name P → Exp P
select p l = fn p (one_rule p (pat_row p (and_pat_field (pat_field l (pat_var p v)) no_pat_field) true) (var p v))

-- `case e of m`
abbrev pub case_of : {P : Type 0} → P → Exp P → Rules P → Exp P
case_of p e m = apply p (bracket p (fn p m)) e

-- `if e then a else b`
abbrev pub if_of : {P : Type 0} → P → Exp P → Exp P → Exp P → Exp P
if_of p e a b = case_of p e (and_rule (rule p (pat_var p true_id) a) (one_rule p (pat_var p false_id) b))

-- `a orelse b`
abbrev pub orelse_of : {P : Type 0} → P → Exp P → Exp P → Exp P
orelse_of p a b = if_of p a (var p true_id) b

-- `a andalso b`
abbrev pub andalso_of : {P : Type 0} → P → Exp P → Exp P → Exp P
andalso_of p a b = if_of p a b (var p false_id)

-- `(a; ..; z)`, from `a` and `(..; z)`
abbrev pub sequence_of : {P : Type 0} → P → Exp P → Exp P → Exp P
sequence_of p a rest = case_of p a (one_rule p (wildcard p) rest)

-- `v ()`
abbrev pub again : {P : Type 0} → P → Exp P
again p = apply p (var p v) (unit p)

-- `while a do b`
abbrev pub while_of : {P : Type 0} → P → Exp P → Exp P → Exp P
while_of p a b = let_in p (and_dec (val_dec p [] no_bind (and_bind (bind (pat_var p v) (fn p (one_rule p (pat_unit p) (if_of p a (sequence_of p b (again p)) (unit p))))) no_bind)) no_dec) (again p)

-- `[]` and `[a, .., z]`, this from `a` and `[.., z]`
abbrev pub nil_of : {P : Type 0} → P → Exp P
nil_of p = var p nil_id

abbrev pub cons_of : {P : Type 0} → P → Exp P → Exp P → Exp P
cons_of p a rest = apply p (var p cons_id) (pair p a rest)

abbrev pub pat_nil : {P : Type 0} → P → Pat P
pat_nil p = pat_var p nil_id

abbrev pub pat_cons : {P : Type 0} → P → Pat P → Pat P → Pat P
pat_cons p a rest = pat_apply p (written p cons_id) (pat_pair p a rest)

-- `a f b`
abbrev pub infix_of : {P : Type 0} → P → Name P → Exp P → Exp P → Exp P
infix_of p f a b = apply p (name f.place (long f)) (pair p a b)

abbrev pub pat_infix : {P : Type 0} → P → Name P → Pat P → Pat P → Pat P
pat_infix p f a b = pat_apply p (long f) (pat_pair p a b)

-- `x`, `x : t`, `x as p` and `x : t as p`
abbrev pub layered : {P : Type 0} → Name P → Option (Ty P) → Option (Pat P) → Pat P
layered x None None = pat_name x.place (long x)
layered x (Some t) None = pat_typed x.place (pat_name x.place (long x)) t
layered x t (Some q) = pat_as x.place x t q

-- the same in a row
abbrev pub pun : {P : Type 0} → Name P → Option (Ty P) → Option (Pat P) → PatField P
pun x t q = pat_field x (layered x t q)

-- `exp` at top level
abbrev pub it_dec : {P : Type 0} → P → Exp P → Dec P
it_dec p e = val_dec p [] (and_bind (bind (pat_var p it_id) e) no_bind) no_bind

abbrev pub count : {P : Type 0} → Pats P → ℕ
count no_pat = 0
count (and_pat q qs) = suc (count qs)

-- one phrase stands for itself, and others for their tuple
abbrev pub row_of : {P : Type 0} → P → Exps P → Exp P
row_of p (and_exp e no_exp) = e
row_of p es = tuple p es

-- n hidden variables, from the k-th on
abbrev pub hidden_from : {P : Type 0} → P → ℕ → ℕ → Exps P
hidden_from p k zero = no_exp
hidden_from p k (suc n) = and_exp (var p (hidden k)) (hidden_from p (suc k) n)

-- a function of n hidden variables, one after the other, from the k-th on
abbrev pub curried : {P : Type 0} → P → ℕ → ℕ → Exp P → Exp P
curried p k zero e = e
curried p k (suc n) e = fn p (one_rule p (pat_var p (hidden k)) (curried p (suc k) n e))

-- `f` and its clauses, after `fun`: what stands after `val rec`
abbrev pub function_of : {P : Type 0} → Id → Clause P → List (Clause P) → ValBind P
function_of f c cs = bind (pat_var c.place f) (curried c.place 1 (count c.pats) (case_of c.place (row_of c.place (hidden_from c.place 1 (count c.pats))) (clause_rules (c ∷ cs))))

-- `structure A : S = e`, also with `:>`
abbrev pub structure_of : {P : Type 0} → Name P → Ascription → SigExp P → StrExp P → StrBind P
structure_of x a s e = str_bind x (ascribed x.place e a s)

-- `F (strdec)`
abbrev pub functor_apply_decs : {P : Type 0} → Name P → StrDecs P → StrExp P
functor_apply_decs f ds = functor_apply f (struct_end f.place ds)

-- `functor F (X : S) : R = e`, also with `:>`
abbrev pub functor_of : {P : Type 0} → Name P → Name P → SigExp P → Ascription → SigExp P → StrExp P → FunBind P
functor_of f x s a r e = record { name = f; argument = x; signature = s; body = ascribed f.place e a r }

-- `functor F (spec) .. = e`, from `e ..`
abbrev pub open_functor : {P : Type 0} → Name P → Specs P → StrExp P → FunBind P
open_functor f ss e = record { name = f; argument = record { place = f.place; id = v }; signature = sig_end f.place ss; body = str_let f.place (and_str_dec (core_dec (open_dec f.place (written f.place v ∷ []))) no_str_dec) e }

-- `s where type .. and type ..`
abbrev pub where_types : {P : Type 0} → P → SigExp P → List (WhereType P) → SigExp P
where_types p s [] = s
where_types p s (w ∷ ws) = where_types p (where_type p s w) ws

-- `type t = ty` in a specification
abbrev pub type_spec_of : {P : Type 0} → P → TypBind P → Spec P
type_spec_of p b = include_spec p (where_type p (sig_end p (and_spec (type_spec p (record { variables = b.variables; name = b.name } ∷ [])) no_spec)) (record { variables = b.variables; constructor = long b.name; ty = b.ty }))

-- Those of a group, one after the other, each at the place of the whole.
abbrev pub other_type_specs : {P : Type 0} → P → List (TypBind P) → Specs P
other_type_specs p [] = no_spec
other_type_specs p (b ∷ bs) = and_spec (type_spec_of p b) (other_type_specs p bs)

abbrev pub type_specs : {P : Type 0} → P → TypBind P → List (TypBind P) → Specs P
type_specs p b bs = and_spec (type_spec_of p b) (other_type_specs p bs)

abbrev pub include_of : {P : Type 0} → P → Name P → Spec P
include_of p x = include_spec p (sig_name x.place x.id)

-- `include A B ..`
abbrev pub includes : {P : Type 0} → P → List (Name P) → Specs P
includes p [] = no_spec
includes p (x ∷ xs) = and_spec (include_of p x) (includes p xs)
