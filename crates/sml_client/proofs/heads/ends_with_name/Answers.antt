use Rattle.std.proofs.Common.{◌≡◌, ◌++◌, ◌-◌, sym, ap, ◌∙◌, length, drop, take, take-append-drop, length-drop, arith}
use Rattle.std.proofs.lemmas.List.{take_rest}
use Rattle.sml_client.proofs.Parts.{name_tested}
use Rattle.sml_client.proofs.heads.ends_with_name.Goals as goal

pub returns : goal.returns
returns c =
    let bytes = c.args.name.now in
    let from = c.in-Some.from in
    let rest = take_rest bytes from in
    let size : length (take (length bytes - from) (drop from bytes)) ≡ 14 =
    (let r = ap length rest in let d = length-drop from bytes in let e = c.in-Some.ensures in omega (arith, r, d, e)) in
    name_tested c.eq_ignore_ascii_case.result bytes (take from bytes) (take (length bytes - from) (drop from bytes))
    (sym (take-append-drop from bytes) ∙ ap (λ l. take from bytes ++ l) (sym rest)) size c.eq_ignore_ascii_case.ensures.test
