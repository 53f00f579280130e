use Rattle.std.proofs.Common.{ap, sym, subst, ◌∙◌, ◌≡◌, ◌≤◌, ◌<◌, length, get_or, map, string_bytes, [], arith}
use Rattle.std.proofs.lemmas.List.{get_or-map, get_or_past, length-map}
use Rattle.sml_session.proofs.files.Listed.file_of.Goals as goal

pub returns-in-Some : goal.returns-in-Some
returns-in-Some c =
    let k = c.args.unit.now.id.index in
    let files = c.args.self.now.files.items in
    let file = c.in-Some.file.now in
    let at = subst (λ fs. file ≡ get_or fs k file) c.deref.ensures.value c.in-Some.ensures.lookup.1 in
    let within = subst (λ fs. k < length fs) c.deref.ensures.value c.in-Some.ensures.lookup.3.0 in
    c.as_str.ensures.value ∙ ap string_bytes at ∙ sym (get_or-map string_bytes files k file [] within)

pub returns-in-None : goal.returns-in-None
returns-in-None c =
    let k = c.args.unit.now.id.index in
    let files = c.args.self.now.files.items in
    let past = subst (λ fs. length fs ≤ k) c.deref.ensures.value c.in-None.ensures.lookup.3 in
    sym (get_or_past (map string_bytes files) k [] (let n = length-map files string_bytes in omega (arith, n, past)))
