-- The reply to `extract`, as bytes.
use Rattle.std.specs.Prelude.{ℕ, List, [], ◌∷◌, ◌++◌, Option, Some, None, unwrap_or, slice_get, codes}
use Rattle.std.specs.Option.{option_map}
use Rattle.std.specs.Fmt.{decimal}
use Rattle.go_base.specs.declared.span.Span.{Span}
use Rattle.clone_script.specs.declared.extract.ExtractAnswer.{ExtractAnswer}
use Rattle.clone_script.specs.declared.extract.ExtractAnswer.TheVariants as answers
use Rattle.clone_script.specs.Replies.{place}

-- the words of the refusals, from the code 0 on, which none has
abbrev pub refusal_words : List (List ℕ)
refusal_words =
    [] ∷ codes "NoClass" ∷ codes "NoMember" ∷ codes "Overlap" ∷ codes "Return" ∷ codes "Branch" ∷ codes "FallsThrough" ∷ codes "DeclarationEscapes"
    ∷ codes "LocalName" ∷ codes "MissingReturn" ∷ codes "NameInUse" ∷ codes "Shadowed" ∷ codes "HiddenAtSite" ∷ codes "UnusedImport"
    ∷ codes "UnusedVariable" ∷ codes "TypeLocal" ∷ codes "TypeHidden" ∷ codes "Limit" ∷ []

-- the word of the refusal with this code, which is one of 1 to 17
abbrev pub refusal_word : ℕ → List ℕ
refusal_word code = unwrap_or (slice_get refusal_words code) []

-- `no extract C W`
abbrev pub refusal_head : ℕ → List ℕ
refusal_head code = codes "no extract " ++ decimal code ++ codes " " ++ refusal_word code

-- for the member of this number, and for a place, where there is one: the name of a file, and bytes in it
abbrev pub refused_line : ℕ → ℕ → Option (List ℕ × Span) → List ℕ
refused_line code member None = refusal_head code ++ codes "\n"
refused_line code member (Some p) = refusal_head code ++ codes " " ++ decimal member ++ codes " " ++ place p.0 p.1 ++ codes "\n"

-- for a number that is no member's
abbrev pub number_line : ℕ → List ℕ
number_line number = refusal_head 2 ++ codes " " ++ decimal number ++ codes "\n"

abbrev pub counts_text : ℕ → ℕ → ℕ → ℕ → List ℕ
counts_text members parameters results dropped =
    codes " members " ++ decimal members ++ codes " parameters " ++ decimal parameters ++ codes " results " ++ decimal results ++ codes " dropped " ++ decimal dropped ++ codes "\n"

-- `ok extract NAME members M parameters P results R dropped D` and a newline
abbrev pub done_line : List ℕ → ℕ → ℕ → ℕ → ℕ → List ℕ
done_line name members parameters results dropped = codes "ok extract " ++ name ++ counts_text members parameters results dropped

-- The counts of an extraction that was done. Of a refused one the code and the word, and then, where there are any, the number of the
-- member in its class and the place.
abbrev pub extract_reply : List ℕ → ExtractAnswer → List ℕ
extract_reply name (answers.Done members parameters results dropped) = done_line name members parameters results dropped
extract_reply name answers.NoClass = refused_line 1 0 None
extract_reply name (answers.NoMember number) = number_line number
extract_reply name (answers.Refused code member place) = refused_line code member (option_map (λ p. (p.0.now, p.1)) place)
