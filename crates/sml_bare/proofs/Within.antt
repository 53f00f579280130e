-- What is kept with its height is within the limit, and so is the highest of several.
use Rattle.std.proofs.Common.{◌≡◌, ℕ, zero, suc, ◌≤◌, List, [], ◌∷◌, ◌++◌, map, max, replicate, reverse, Bool, true, false, Option, Some, None, refl, arith}
use Rattle.std.proofs.lemmas.Bool.{le-leb}
use Rattle.std.specs.Prelude.{◌&&◌}
use Rattle.std.specs.Option.{option_map}
use Rattle.sml_tree.specs.Heights.{highest, height_if_any, ty_height, pat_height, exp_height, rules_height}
use Rattle.sml_tree.specs.TypeViews.{ty_of}
use Rattle.sml_tree.specs.PatternViews.{pat_of}
use Rattle.sml_tree.specs.ExpressionViews.{exp_of, rule_of, rules_of}
use Rattle.sml_phrases.specs.declared.stack.Held.{Held}
use Rattle.sml_phrases.specs.declared.low.LowTy.{LowTy}
use Rattle.sml_phrases.specs.declared.low.LowPat.{LowPat}
use Rattle.sml_phrases.specs.declared.low.LowExp.{LowExp}
use Rattle.sml_phrases.specs.declared.low.LowRules.{LowRules}
use Rattle.sml_phrases.specs.declared.phrase.Phrase as D
use Rattle.sml_phrases.specs.declared.phrase.Phrase.TheVariants as V
use Rattle.sml_phrases.specs.declared.phrase.TypePhrase.TheVariants as Types
use Rattle.sml_phrases.specs.declared.phrase.PatternPhrase.TheVariants as Patterns
use Rattle.sml_phrases.specs.declared.phrase.ExpressionPhrase.TheVariants as Expressions
use Rattle.sml_phrases.specs.declared.phrase.DeclarationPhrase.TheVariants as Declarations
use Rattle.sml_phrases.specs.declared.phrase.SignaturePhrase.TheVariants as Signatures
use Rattle.sml_phrases.specs.declared.phrase.StructurePhrase.TheVariants as Structures
use Rattle.sml_phrases.specs.declared.low.LowWhere.{LowWhere}
use Rattle.sml_phrases.specs.declared.low.LowConstraint.{LowConstraint}
use Rattle.sml_phrases.specs.Phrases.{first, nothing}
use Rattle.sml_phrases.specs.PhraseHeights.{is_low, low, where_height, constraint_height}
use Rattle.sml_phrases.specs.PhraseViews.{phrase_of, held_in, low_where_of, low_constraint_of}

higher : (a b : ℕ) → a ≤ 4000 → b ≤ 4000 → max a b ≤ 4000
higher a b h k = omega (arith, h, k)

wheres_within : (ws : List LowWhere) → highest where_height (map low_where_of ws) ≤ 4000
wheres_within [] = omega arith
wheres_within (w ∷ ws) =
    let m = w.ty.measured in
    let l = w.ty.low in
    higher _ _ (omega (arith, m, l)) (wheres_within ws)

constraints_within : (cs : List LowConstraint) → highest constraint_height (map low_constraint_of cs) ≤ 4000
constraints_within [] = omega arith
constraints_within (c ∷ cs) =
    let m = c.signature.measured in
    let l = c.signature.low in
    higher _ _ (omega (arith, m, l)) (constraints_within cs)

pub low_wheres : (ws : List LowWhere) → low (highest where_height (map low_where_of (reverse ws))) ≡ true
low_wheres ws = le-leb _ 4000 (wheres_within (reverse ws))

pub low_constraints : (cs : List LowConstraint) → low (highest constraint_height (map low_constraint_of (reverse cs))) ≡ true
low_constraints cs = le-leb _ 4000 (constraints_within (reverse cs))

-- what is measured is within the limit
within : (n h : ℕ) → n ≡ h → h ≤ 4000 → low n ≡ true
within n h e l = le-leb n 4000 (omega (arith, e, l))

both : (a b : Bool) → a ≡ true → b ≡ true → (a && b) ≡ true
both true b e f = f
both false b e f = e

ty_within : (t : Option LowTy) → low (height_if_any ty_height (option_map (λ u. ty_of u.tree) t)) ≡ true
ty_within None = refl
ty_within (Some t) = within _ _ t.measured t.low

pat_within : (q : Option LowPat) → low (height_if_any pat_height (option_map (λ u. pat_of u.tree) q)) ≡ true
pat_within None = refl
pat_within (Some q) = within _ _ q.measured q.low

exp_within : (e : Option LowExp) → low (height_if_any exp_height (option_map (λ u. exp_of u.tree) e)) ≡ true
exp_within None = refl
exp_within (Some e) = within _ _ e.measured e.low

rules_within : (rs : Option LowRules) → low (height_if_any rules_height (option_map (λ u. rules_of (map rule_of (reverse u.trees.items))) rs)) ≡ true
rules_within None = refl
rules_within (Some rs) = within _ _ rs.measured rs.low

phrase_within : (phrase : D.Phrase) → is_low (phrase_of phrase) ≡ true
phrase_within V.Nothing = refl
phrase_within (V.Word p) = refl
phrase_within (V.Name x) = refl
phrase_within (V.Long c) = refl
phrase_within (V.Constant c) = refl
phrase_within (V.Names xs) = refl
phrase_within (V.Longs cs) = refl
phrase_within (V.Types (Types.Ty t)) = within _ _ t.measured t.low
phrase_within (V.Types (Types.Tys ts)) = within _ _ ts.measured ts.low
phrase_within (V.Types (Types.TyFields fs)) = within _ _ fs.measured fs.low
phrase_within (V.Types (Types.Arguments ts c)) = within _ _ ts.measured ts.low
phrase_within (V.Patterns (Patterns.Pat q)) = within _ _ q.measured q.low
phrase_within (V.Patterns (Patterns.Pats qs)) = within _ _ qs.measured qs.low
phrase_within (V.Patterns (Patterns.PatFields fs flexible)) = within _ _ fs.measured fs.low
phrase_within (V.Patterns (Patterns.Atoms qs ts)) = both _ _ (within _ _ qs.measured qs.low) (within _ _ ts.measured ts.low)
phrase_within (V.Patterns (Patterns.Layer layer)) = both _ _ (ty_within layer.value.ty) (pat_within layer.value.pat)
phrase_within (V.Patterns (Patterns.OpAtoms c qs ts)) = both _ _ (within _ _ qs.measured qs.low) (within _ _ ts.measured ts.low)
phrase_within (V.Patterns (Patterns.OpLayer x layer)) = both _ _ (ty_within layer.value.ty) (pat_within layer.value.pat)
phrase_within (V.Expressions (Expressions.Exp e)) = within _ _ e.measured e.low
phrase_within (V.Expressions (Expressions.Exps es)) = within _ _ es.measured es.low
phrase_within (V.Expressions (Expressions.Series es)) = within _ _ es.measured es.low
phrase_within (V.Expressions (Expressions.Fields fs)) = within _ _ fs.measured fs.low
phrase_within (V.Expressions (Expressions.Rules rs)) = within _ _ rs.measured rs.low
phrase_within (V.Expressions (Expressions.Rest r)) =
    let v = r.value in
    both _ _ (both _ _ (both _ _ (both _ _ (within _ _ v.exps.measured v.exps.low) (within _ _ v.tys.measured v.tys.low)) (exp_within v.conjunct)) (exp_within v.disjunct)) (rules_within v.rules)
phrase_within (V.Declarations (Declarations.Dec d)) = within _ _ d.measured d.low
phrase_within (V.Declarations (Declarations.Decs ds)) = within _ _ ds.measured ds.low
phrase_within (V.Declarations (Declarations.Bind b)) = within _ _ b.measured b.low
phrase_within (V.Declarations (Declarations.Binds bs)) = within _ _ bs.measured bs.low
phrase_within (V.Declarations (Declarations.Values xs bs recs)) = both _ _ (within _ _ bs.measured bs.low) (within _ _ recs.measured recs.low)
phrase_within (V.Declarations (Declarations.RoundValues r)) =
    let v = r.value in
    both _ _ (both _ _ (both _ _ (both _ _ (both _ _ (within _ _ v.inner.measured v.inner.low) (within _ _ v.pats.measured v.pats.low)) (within _ _ v.tys.measured v.tys.low)) (within _ _ v.exp.measured v.exp.low)) (within _ _ v.plain.measured v.plain.low)) (within _ _ v.recursive.measured v.recursive.low)
phrase_within (V.Declarations (Declarations.Functions xs bs)) = within _ _ bs.measured bs.low
phrase_within (V.Declarations (Declarations.RightSide r)) = both _ _ (both _ _ (within _ _ r.value.pats.measured r.value.pats.low) (ty_within r.value.result)) (within _ _ r.value.body.measured r.value.body.low)
phrase_within (V.Declarations (Declarations.Clauses cs)) = within _ _ cs.measured cs.low
phrase_within (V.Declarations (Declarations.RoundFunctions qs r cs bs)) =
    let v = r.value in
    both _ _ (both _ _ (both _ _ (both _ _ (both _ _ (within _ _ qs.measured qs.low) (within _ _ v.pats.measured v.pats.low)) (ty_within v.result)) (within _ _ v.body.measured v.body.low)) (within _ _ cs.measured cs.low)) (within _ _ bs.measured bs.low)
phrase_within (V.Declarations (Declarations.TypBind xs x t)) = within _ _ t.measured t.low
phrase_within (V.Declarations (Declarations.TypBinds ts)) = within _ _ ts.measured ts.low
phrase_within (V.Declarations (Declarations.ConBind x t)) = ty_within t
phrase_within (V.Declarations (Declarations.ConBinds cs)) = within _ _ cs.measured cs.low
phrase_within (V.Declarations (Declarations.Datatypes ds ts)) = both _ _ (within _ _ ds.measured ds.low) (within _ _ ts.measured ts.low)
phrase_within (V.Declarations (Declarations.Constructors cs ds ts)) = both _ _ (both _ _ (within _ _ cs.measured cs.low) (within _ _ ds.measured ds.low)) (within _ _ ts.measured ts.low)
phrase_within (V.Declarations (Declarations.Copy x c)) = refl
phrase_within (V.Declarations (Declarations.ExnBinds es)) = within _ _ es.measured es.low
phrase_within (V.Signatures (Signatures.Sig s)) = within _ _ s.measured s.low
phrase_within (V.Signatures (Signatures.Where xs c t)) = within _ _ t.value.measured t.value.low
phrase_within (V.Signatures (Signatures.Wheres ws)) = low_wheres ws.items
phrase_within (V.Signatures (Signatures.BegunSigBind x s)) = within _ _ s.measured s.low
phrase_within (V.Signatures (Signatures.SigBinds ws bs)) = both _ _ (low_wheres ws.items) (within _ _ bs.measured bs.low)
phrase_within (V.Signatures (Signatures.Specs ss)) = within _ _ ss.measured ss.low
phrase_within (V.Signatures (Signatures.ValDesc x t)) = within _ _ t.measured t.low
phrase_within (V.Signatures (Signatures.ValDescs ds)) = within _ _ ds.measured ds.low
phrase_within (V.Signatures (Signatures.TypDescs ds)) = refl
phrase_within (V.Signatures (Signatures.TypeRest t ts)) = both _ _ (within _ _ t.measured t.low) (within _ _ ts.measured ts.low)
phrase_within (V.Signatures (Signatures.BegunStrDesc x s)) = within _ _ s.measured s.low
phrase_within (V.Signatures (Signatures.StrDescs ws ds)) = both _ _ (low_wheres ws.items) (within _ _ ds.measured ds.low)
phrase_within (V.Signatures (Signatures.SharedTypes cs)) = refl
phrase_within (V.Structures (Structures.Str e)) = within _ _ e.measured e.low
phrase_within (V.Structures (Structures.StrDec d)) = within _ _ d.measured d.low
phrase_within (V.Structures (Structures.StrDecs ds)) = within _ _ ds.measured ds.low
phrase_within (V.Structures (Structures.Constraints ws cs)) = both _ _ (low_wheres ws.items) (low_constraints cs.items)
phrase_within (V.Structures (Structures.StrBinds ws cs bs)) = both _ _ (both _ _ (low_wheres ws.items) (low_constraints cs.items)) (within _ _ bs.measured bs.low)
phrase_within (V.Structures (Structures.BegunStrBind x cs e)) = both _ _ (low_constraints cs.items) (within _ _ e.measured e.low)
phrase_within (V.Structures (Structures.FunctorArgument x s)) = within _ _ s.measured s.low
phrase_within (V.Structures (Structures.FunBinds ws cs bs)) = both _ _ (both _ _ (low_wheres ws.items) (low_constraints cs.items)) (within _ _ bs.measured bs.low)
phrase_within (V.Structures (Structures.BegunFunBind x y s cs e)) = both _ _ (both _ _ (within _ _ s.value.measured s.value.low) (low_constraints cs.items)) (within _ _ e.measured e.low)
phrase_within (V.Structures (Structures.BegunFunctor x ss cs e)) = both _ _ (both _ _ (within _ _ ss.measured ss.low) (low_constraints cs.items)) (within _ _ e.measured e.low)
phrase_within (V.Structures (Structures.Top d)) = within _ _ d.measured d.low

pub first_within : (n : ℕ) (hs : List Held) → is_low (first (replicate n nothing ++ held_in hs)) ≡ true
first_within zero [] = refl
first_within zero (h ∷ hs) = phrase_within h.phrase
first_within (suc n) hs = refl
