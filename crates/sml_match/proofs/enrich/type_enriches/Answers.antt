use Rattle.std.proofs.Common.{◌≡◌, ◌⊎◌, List, [], ◌∷◌, length, ap, sym, ◌∙◌, inl, inr, arith, Vec, ℕ, Global}
use Rattle.std.specs.declared.rc.Rc.{Rc}
use Rattle.sml_objects.specs.Views.{schemes_of, type_of}
use Rattle.sml_objects.specs.declared.objects.Scheme.{Scheme}
use Rattle.sml_bases.specs.Views.{ty_str_of}
use Rattle.sml_match.specs.Paths.{path_in}
use Rattle.sml_match.proofs.Requiring.{type-met}
use Rattle.sml_match.proofs.Unmet.{arity-unmet, body-unmet, constructors-unmet}
use Rattle.sml_match.proofs.enrich.type_enriches.Goals as goal
use Rattle.sml_match.proofs.enrich.type_enriches.Goals.{else-not-is_empty-via-then-not-is_empty+else-not-same_constructors, else-not-is_empty-via-else-not-is_empty}

abbrev Entries : Type 0
Entries = List (Rc (Vec ℕ Global) Global × Rc Scheme Global)

none-listed : (es : Entries) → schemes_of es ≡ [] → length es ≡ 0
none-listed [] h = cc
none-listed (e ∷ es) h = let q : ⊥ = cc in absurd q

nothing-listed : (es : Entries) → length es ≡ 0 → schemes_of es ≡ []
nothing-listed [] h = cc
nothing-listed (e ∷ es) h = absurd (omega (arith, h))

pub returns-then-len : goal.returns-then-len
returns-then-len c = λ scope s p E x e f.
    let n = c.len.ensures in
    let o = c.deref.result.now.variables.ok.0 in
    let d = ap (λ (q : Scheme). length q.variables.items) c.deref.ensures in
    let n2 = c.len-2.ensures in
    let o2 = c.deref-2.result.now.variables.ok.0 in
    let d2 = ap (λ (q : Scheme). length q.variables.items) c.deref-2.ensures in
    let b = c.if-len.true in
    arity-unmet (Unit {0}) scope s p E x (ty_str_of c.args.specified.now) (path_in c.args.way.now) e c.in_ok-fault.field-0 (ty_str_of c.args.ty.now) f
    (λ q. omega (arith, n, o, d, n2, o2, d2, b, q)) c.in_ok-fault.ensures

pub returns-then-not-same_function : goal.returns-then-not-same_function
returns-then-not-same_function c = λ scope s p E x e f.
    let n = c.len.ensures in
    let o = c.deref.result.now.variables.ok.0 in
    let d = ap (λ (q : Scheme). length q.variables.items) c.deref.ensures in
    let n2 = c.len-2.ensures in
    let o2 = c.deref-2.result.now.variables.ok.0 in
    let d2 = ap (λ (q : Scheme). length q.variables.items) c.deref-2.ensures in
    let d3 = ap (λ (q : Scheme). length q.variables.items) c.deref-3.ensures in
    let d4 = ap (λ (q : Scheme). length q.variables.items) c.deref-4.ensures in
    let b = c.if-len.false in
    body-unmet (Unit {0}) scope s p E x (ty_str_of c.args.specified.now) (path_in c.args.way.now) e c.in_ok-fault-2.field-0 (ty_str_of c.args.ty.now) f
    (omega (arith, n, o, d, n2, o2, d2, b))
    (λ q. c.same_function.ensures.no c.if-not-same_function.true
    (omega (arith, n, o, d, n2, o2, d2, d3, d4, b), ap (λ (z : Scheme). type_of z.body.value) c.deref-3.ensures ∙ q ∙ sym (ap (λ (z : Scheme). type_of z.body.value) c.deref-4.ensures)))
    c.in_ok-fault-2.ensures

pub returns-then-not-same_constructors : goal.returns-then-not-same_constructors
returns-then-not-same_constructors c = λ scope s p E x e f.
    let n = c.len.ensures in
    let o = c.deref.result.now.variables.ok.0 in
    let d = ap (λ (q : Scheme). length q.variables.items) c.deref.ensures in
    let n2 = c.len-2.ensures in
    let o2 = c.deref-2.result.now.variables.ok.0 in
    let d2 = ap (λ (q : Scheme). length q.variables.items) c.deref-2.ensures in
    let b = c.if-len.false in
    let body = sym (ap (λ (z : Scheme). type_of z.body.value) c.deref-3.ensures) ∙ (c.same_function.ensures.yes c.if-not-same_function.false).1 ∙ ap (λ (z : Scheme). type_of z.body.value) c.deref-4.ensures in
    let empty : length c.deref-5.result.now.entries ≡ length c.args.specified.now.constructors.value.entries = λ i. length (c.deref-5.ensures i).entries in
    let own : schemes_of c.deref-then-not-is_empty.result.now.entries ≡ schemes_of c.args.ty.now.constructors.value.entries = λ i. schemes_of (c.deref-then-not-is_empty.ensures i).entries in
    let asked : schemes_of c.deref-then-not-is_empty-2.result.now.entries ≡ schemes_of c.args.specified.now.constructors.value.entries = λ i. schemes_of (c.deref-then-not-is_empty-2.ensures i).entries in
    constructors-unmet (Unit {0}) scope s p E x (ty_str_of c.args.specified.now) (path_in c.args.way.now) e c.in_ok-fault-3.field-0 (ty_str_of c.args.ty.now) f
    (omega (arith, n, o, d, n2, o2, d2, b)) body
    (λ q. elim q [
      | inl z ↦ (let t = c.is_empty.ensures.1 (empty ∙ none-listed c.args.specified.now.constructors.value.entries z) in let r = c.if-not-is_empty.true in let bad : ⊥ = cc in bad)
      | inr z ↦ c.same_constructors.ensures.no c.if-not-same_constructors.true
          (own ∙ z ∙ sym asked)
    ])
    c.in_ok-fault-3.ensures

pub returns : goal.returns
returns c = λ scope s p E x e f rest o h.
    let n = c.len.ensures in
    let o1 = c.deref.result.now.variables.ok.0 in
    let d = ap (λ (q : Scheme). length q.variables.items) c.deref.ensures in
    let n2 = c.len-2.ensures in
    let o2 = c.deref-2.result.now.variables.ok.0 in
    let d2 = ap (λ (q : Scheme). length q.variables.items) c.deref-2.ensures in
    let b = c.if-len.false in
    let body = sym (ap (λ (z : Scheme). type_of z.body.value) c.deref-3.ensures) ∙ (c.same_function.ensures.yes c.if-not-same_function.false).1 ∙ ap (λ (z : Scheme). type_of z.body.value) c.deref-4.ensures in
    let u = ty_str_of c.args.ty.now in
    let t = ty_str_of c.args.specified.now in
    let empty : length c.deref-5.result.now.entries ≡ length c.args.specified.now.constructors.value.entries = λ i. length (c.deref-5.ensures i).entries in
    let cons : (t.constructors ≡ []) ⊎ (u.constructors ≡ t.constructors) = elim c.else-not-is_empty.branch [
      | else-not-is_empty-via-then-not-is_empty+else-not-same_constructors w ↦
          (let own : schemes_of w.deref-then-not-is_empty.result.now.entries ≡ schemes_of c.args.ty.now.constructors.value.entries = λ i. schemes_of (w.deref-then-not-is_empty.ensures i).entries in
          let asked : schemes_of w.deref-then-not-is_empty-2.result.now.entries ≡ schemes_of c.args.specified.now.constructors.value.entries = λ i. schemes_of (w.deref-then-not-is_empty-2.ensures i).entries in
          inr (sym own ∙ w.same_constructors.ensures.yes w.if-not-same_constructors.false ∙ asked))
      | else-not-is_empty-via-else-not-is_empty w ↦ inl (nothing-listed c.args.specified.now.constructors.value.entries
          (sym empty ∙ c.is_empty.ensures.0 w.if-not-is_empty.false))
    ] in
    type-met scope s p E x t rest u o f (omega (arith, n, o1, d, n2, o2, d2, b)) body cons h
