use Rattle.std.proofs.Common.{◌≡◌, Bool, true, false, not, ◌||◌, length, refl, ap, sym, subst, ◌∙◌, Some, None, arith}
use Rattle.sml_tree.specs.Views.{ident_of}
use Rattle.sml_objects.specs.Initial.{Name, attributes_of, naming}
use Rattle.sml_objects.specs.Objects as O
use Rattle.sml_objects.specs.Views.{name_of, scheme_of}
use Rattle.sml_objects.specs.declared.objects.Scheme.{Scheme}
use Rattle.sml_rules.specs.Answers.{accepted}
use Rattle.sml_core_rules.specs.Values.{has_unknown}
use Rattle.sml_module_rules.specs.Lines.{at_path}
use Rattle.sml_module_rules.specs.Realising as R
use Rattle.sml_bases.specs.Views.{env_of, ty_str_of}
use Rattle.sml_types.proofs.Entries.{type-read}
use Rattle.sml_match.specs.Paths.{path_in}
use Rattle.sml_match.specs.Searches.{IsHeldAt}
use Rattle.sml_match.proofs.Refusals.{at-missing, at-nothing, at-other-arity, at-no-equality, at-found, found-type}
use Rattle.sml_match.proofs.realise.function_in.Goals as goal
use Rattle.sml_match.proofs.realise.function_in.Goals.{else-has_equality-via-then-has_equality+else-not-admits_equality, else-has_equality-via-else-has_equality}

not-asked : (a b : Bool) → a ≡ false → (not a || b) ≡ true
not-asked a b h = ap (λ q. not q || b) h

admitted : (a b : Bool) → b ≡ true → (not a || b) ≡ true
admitted true b h = h
admitted false b h = refl

pub returns-in-Missing : goal.returns-in-Missing
returns-in-Missing c = λ p ns E path t known held e f.
    at-missing p ns E path (path_in c.args.search.now.way) (ident_of c.args.name.now) (name_of c.args.bound) t c.in_ok-fault_before-in-Missing.field-0 c.in-Missing.length
    (subst (λ q. IsHeldAt E path q) c.in-Missing.is held) e c.in_ok-fault_before-in-Missing.ensures

pub returns-in_default : goal.returns-in_default
returns-in_default c = λ p ns E path t known held e f.
    at-nothing p ns E path (path_in c.args.search.now.way) (ident_of c.args.name.now) (name_of c.args.bound) t c.in_ok-fault.field-0 (env_of c.in-Env.env.now)
    (subst (λ q. IsHeldAt E path q) c.in-Env.is held) (sym (type-read c.in-Env.env.now c.args.name.now None c.in_default.ensures.value)) e c.in_ok-fault.ensures

pub returns-then-len : goal.returns-then-len
returns-then-len c = λ p ns E path t known held e f.
    let n = c.len.ensures in
    let o = c.deref.result.now.variables.ok.0 in
    let d = ap (λ (q : Scheme). length q.variables.items) c.deref.ensures in
    let n2 = c.len-2.ensures in
    let o2 = c.args.specified.now.variables.ok.0 in
    let g = ap (λ (q : O.Scheme Name). length q.variables) f in
    let b = c.if-len.true in
    at-other-arity p ns E path (path_in c.args.search.now.way) (ident_of c.args.name.now) (name_of c.args.bound) t c.in_ok-fault-2.field-0 (env_of c.in-Env.env.now) (ty_str_of c.in-Some.found.now)
    (subst (λ q. IsHeldAt E path q) c.in-Env.is held) (sym (type-read c.in-Env.env.now c.args.name.now (Some c.in-Some.found) c.in-Some.ensures.value)) e
    (λ q. omega (arith, n, o, d, n2, o2, g, b, q)) c.in_ok-fault-2.ensures

pub returns-then-not-admits_equality : goal.returns-then-not-admits_equality
returns-then-not-admits_equality c = λ p ns E path t known held e f.
    let n = c.len.ensures in
    let o = c.deref.result.now.variables.ok.0 in
    let d = ap (λ (q : Scheme). length q.variables.items) c.deref.ensures in
    let n2 = c.len-2.ensures in
    let o2 = c.args.specified.now.variables.ok.0 in
    let g = ap (λ (q : O.Scheme Name). length q.variables) f in
    let b = c.if-len.false in
    let u = ty_str_of c.in-Some.found.now in
    let F = env_of c.in-Env.env.now in
    let there = sym (type-read c.in-Env.env.now c.args.name.now (Some c.in-Some.found) c.in-Some.ensures.value) in
    let h = subst (λ q. IsHeldAt E path q) c.in-Env.is held in
    let d3 = c.deref-then-has_equality.ensures in
    let clear = ap (λ (q : Scheme). has_unknown (scheme_of q).body) d3 ∙ known (at_path path (ident_of c.args.name.now)) u (found-type E F (at_path path (ident_of c.args.name.now)) u h there) in
    at-no-equality p ns E path (path_in c.args.search.now.way) (ident_of c.args.name.now) (name_of c.args.bound) t c.in_ok-fault-3.field-0 F u h there e
    (omega (arith, n, o, d, n2, o2, g, b)) (sym c.has_equality.ensures ∙ c.if-has_equality.true)
    (sym (ap (λ (q : Scheme). R.admits_function naming (scheme_of q)) d3) ∙ sym (c.admits_equality.ensures.known clear) ∙ c.if-not-admits_equality.true)
    c.in_ok-fault-3.ensures

pub returns : goal.returns
returns c = λ p ns E path t known held e f.
    let n = c.len.ensures in
    let o = c.deref.result.now.variables.ok.0 in
    let d = ap (λ (q : Scheme). length q.variables.items) c.deref.ensures in
    let n2 = c.len-2.ensures in
    let o2 = c.args.specified.now.variables.ok.0 in
    let g = ap (λ (q : O.Scheme Name). length q.variables) f in
    let b = c.if-len.false in
    let u = ty_str_of c.in-Some.found.now in
    let F = env_of c.in-Env.env.now in
    let there = sym (type-read c.in-Env.env.now c.args.name.now (Some c.in-Some.found) c.in-Some.ensures.value) in
    let h = subst (λ q. IsHeldAt E path q) c.in-Env.is held in
    let unknown = known (at_path path (ident_of c.args.name.now)) u (found-type E F (at_path path (ident_of c.args.name.now)) u h there) in
    let admits : (not (attributes_of (name_of c.args.bound)).equality || R.admits_function naming u.function) ≡ true = elim c.else-has_equality.branch [
      | else-has_equality-via-then-has_equality+else-not-admits_equality w ↦ admitted _ _
          (sym (ap (λ (q : Scheme). R.admits_function naming (scheme_of q)) w.deref-then-has_equality.ensures)
          ∙ sym (w.admits_equality.ensures.known (ap (λ (q : Scheme). has_unknown (scheme_of q).body) w.deref-then-has_equality.ensures ∙ unknown)) ∙ w.if-not-admits_equality.false)
      | else-has_equality-via-else-has_equality w ↦ not-asked _ _ (sym c.has_equality.ensures ∙ w.if-has_equality.false)
    ] in
    at-found p ns E F path (ident_of c.args.name.now) (name_of c.args.bound) t u h there (omega (arith, n, o, d, n2, o2, g, b)) admits
    ∙ ap (λ (q : Scheme). accepted (scheme_of q)) (sym c.in_ok-clone.ensures.cases)
