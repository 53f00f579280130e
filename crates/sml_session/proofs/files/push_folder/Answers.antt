use Rattle.std.proofs.Common.{ap, ◌∙◌, ◌++◌, codes, arith}
use Rattle.std.proofs.lemmas.List.{append_assoc}
use Rattle.std.proofs.lemmas.Str.{encode_ascii}
use Rattle.std.specs.String.{string_bytes}
use Rattle.sml_session.proofs.Paths.{folder_found}
use Rattle.sml_session.proofs.files.push_folder.Goals as goal

pub returns-in_ok-push-in-Some : goal.returns-in_ok-push-in-Some
returns-in_ok-push-in-Some c =
    let added = c.in_ok-push-in-Some.ensures.bytes ∙ ap (λ l. string_bytes c.push_str.new.self ++ l) (encode_ascii 47 (omega arith)) in
    let before = ap (λ l. l ++ codes "/") c.in_ok-push_str-in-Some.ensures.bytes in
    (_, folder_found _ _ _ c.in-Some.ensures.cases, added ∙ before ∙ append_assoc (string_bytes c.args.path.now) c.in-Some.folder.now (codes "/"))
