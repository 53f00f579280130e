-- What stands before the last slash of a path.
use Rattle.std.proofs.Common.{ℕ, List, ◌++◌, codes, take, drop, refl, sym, ap, ◌∙◌, inr, arith}
use Rattle.std.proofs.lemmas.List.{take-append-drop, append_assoc}
use Rattle.std.proofs.lemmas.Str.{encode_ascii}
use Rattle.std.specs.Str.Pattern.{SplitsAroundMatch, RFindsChar}
use Rattle.sml_session.specs.Files.{IsFolderOf}

pub folder_found : (s front back : List ℕ) → SplitsAroundMatch (RFindsChar 47) s front back → IsFolderOf s (front ++ codes "/")
folder_found s front back h =
    record {
      name = drop h.1 s;
      whole = sym (take-append-drop h.0 s) ∙ ap (λ l. take h.0 s ++ l) (h.2.1.split ∙ ap (λ l. l ++ drop h.1 s) (encode_ascii 47 (omega arith))) ∙ ap (λ l. l ++ (codes "/" ++ drop h.1 s)) (sym h.3) ∙ sym (append_assoc front (codes "/") (drop h.1 s));
      bare = h.2.0;
      ends = inr (front, refl);
    }
