use Rattle.std.proofs.Common.{◌≡◌, List, ℕ, ◌++◌, codes, ap, ◌∙◌, append_assoc}
use Rattle.clone_server.specs.Made.{call_lines, count_functions, functions_text}
use Rattle.clone_server.proofs.made.text_of.Goals as goal

joined : (h f m c e : List ℕ) → (((h ++ f) ++ m) ++ c) ++ e ≡ h ++ (f ++ (m ++ (c ++ e)))
joined h f m c e = append_assoc ((h ++ f) ++ m) c e ∙ append_assoc (h ++ f) m (c ++ e) ∙ append_assoc h f (m ++ (c ++ e))

pub returns : goal.returns
returns c =
    let functions = functions_text count_functions c.args.seed in
    let head = codes "package main\n\nimport \"fmt\"\n" in
    let main = codes "\nfunc main() {\n\ts := 0\n" in
    let end = codes "\tfmt.Println(s)\n}\n" in
    c.in_ok-extend_from_slice-2.ensures.items
    ∙ ap (λ z. z ++ end) (c.in_ok-push_calls.ensures ∙ ap (λ z. z ++ call_lines count_functions) (c.in_ok-extend_from_slice.ensures.items
    ∙ ap (λ z. z ++ main) (c.in_ok-push_functions.ensures ∙ ap (λ z. z ++ functions) c.in_ok-out.ensures.items)))
    ∙ joined head functions main (call_lines count_functions) end
