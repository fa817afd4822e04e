-- Calls that are put behind others.
use Rattle.std.proofs.Common.{◌≡◌, ◌∙◌, List, [], ◌∷◌, ◌++◌, Option, Some, None, ap, sym, append_assoc}
use Rattle.go_needs.specs.declared.calls.Call.{Call}
use Rattle.go_needs.specs.Calls.{with_call}

pub more_some : (o : Option Call) (x : Call) (out new rest : List Call) → new ≡ out ++ x ∷ [] → o ≡ Some x → new ++ rest ≡ out ++ with_call o rest
more_some o x out new rest e h = ap (λ l. l ++ rest) e ∙ (append_assoc out (x ∷ []) rest ∙ sym (ap (λ v. out ++ with_call v rest) h))

pub more_none : (o : Option Call) (out new rest : List Call) → new ≡ out → o ≡ None → new ++ rest ≡ out ++ with_call o rest
more_none o out new rest e h = ap (λ l. l ++ rest) e ∙ sym (ap (λ v. out ++ with_call v rest) h)
