-- How far the lexer has come.
use Rattle.std.proofs.Common.{◌≡◌, cond, ℕ, ◌+◌, ◌≤◌, Bool, true, false, ◌&&◌, ◌||◌, List, [], ◌∷◌, ◌++◌, length, take, drop, append-nil, append_assoc, Option, Some, None, is_some, not, refl, sym, ap, ◌∙◌, subst, arith}
use Rattle.std.proofs.lemmas.List.{take-append-drop, length-take-le, drop-drop, drop_all}
use Rattle.std.specs.List.{list_all}
use Rattle.go_tokens.specs.Lexing.{width}
use Rattle.go_tokens.proofs.Widths.{width-append, width-nil, width_take}
use Rattle.go_tokens.specs.declared.piece.PieceKind.{PieceKind}
use Rattle.go_tokens.specs.declared.piece.PieceKind.TheVariants.{LineComment, BlockComment}
use Rattle.go_tokens.specs.declared.token.Token.{Token}
use Rattle.go_base.specs.declared.Span.{Span}
use Rattle.go_base.specs.declared.Fault.{Fault}
use Rattle.go_base.specs.declared.FaultCode.{FaultCode}
use Rattle.go_base.specs.declared.FaultCode.TheVariants.{Outside}
use Rattle.go_tokens.specs.Pieces.{kind, is_piece, is_good, defect_by}
use Rattle.go_tokens.specs.Lexing.{join, IsLongest, Cut, IsFirst, is_token, is_token_kind, is_break, is_comment_kind, ends_statement, line_ends, tokens, comments, Lexes, IsTokenFault, covered, span, token, token_kind, inserted}
use Rattle.go_tokens.specs.Progress.{State, due, line_ended, noted, taken}
use Rattle.go_tokens.proofs.Seams.{and_both}
use Rattle.go_tokens.proofs.Replace.{join_append, cut_both, all_join}

-- the semicolon that is due, where a line ends
abbrev pub owed : ℕ → Option ℕ → Bool → List Token
owed file None ends = []
owed file (Some end) ends = cond ends (inserted file end ∷ []) []

-- A text up to a place is cut into good pieces, whose comments and tokens these are, whatever follows.
pub record SoFar (file : ℕ) (text : List ℕ) (index at : ℕ) (s : State) : Type 0 where
  pub pieces : List (List ℕ)
  pub whole : join pieces ++ drop index text ≡ text
  pub place : at ≡ width (join pieces)
  pub cut : Cut pieces (drop index text)
  pub good : list_all is_good pieces ≡ true
  pub noted : s.comments ≡ comments file 0 pieces
  pub spelled : (qs : List (List ℕ)) → tokens file 0 (pieces ++ qs) true ≡ (s.tokens ++ owed file s.pending (line_ends qs true)) ++ tokens file at qs true

pub so_far_none : (file : ℕ) (text : List ℕ) → SoFar file text 0 0 (record { tokens = []; comments = []; pending = None })
so_far_none file text = record { pieces = []; whole = refl; place = sym width-nil; cut = tt; good = refl; noted = refl; spelled = λ qs. refl }

owed_false : (file : ℕ) (o : Option ℕ) → owed file o false ≡ []
owed_false file None = refl
owed_false file (Some end) = refl

owed_true : (file : ℕ) (o : Option ℕ) → owed file o true ≡ due file o
owed_true file None = refl
owed_true file (Some end) = refl

comments_append : (file at : ℕ) (ps qs : List (List ℕ)) → comments file at (ps ++ qs) ≡ comments file at ps ++ comments file (at + width (join ps)) qs
comments_append file at [] qs = ap (λ n. comments file n qs) (let e : at ≡ at + width [] = omega (arith, width-nil) in e)
comments_append file at (p ∷ ps) qs =
    let here : List Span = cond (is_comment_kind (kind p)) (span file at (width p) ∷ []) [] in
    ap (λ l. here ++ l) (comments_append file (at + width p) ps qs)
    ∙ sym (append_assoc here (comments file (at + width p) ps) (comments file ((at + width p) + width (join ps)) qs))
    ∙ ap (λ n. (here ++ comments file (at + width p) ps) ++ comments file n qs) (let e : (at + width p) + width (join ps) ≡ at + width (p ++ join ps) = omega (arith, width-append p (join ps)) in e)

token_no_comment : (k : PieceKind) → is_token_kind k ≡ true → is_comment_kind k ≡ false
token_no_comment LineComment h = cc
token_no_comment BlockComment h = cc
token_no_comment k h = refl

comments_step : (file at : ℕ) (p : List ℕ) (s : State) (t b : Bool) → is_token p ≡ t → (cond t (record { tokens = s.tokens ++ token file (token_kind p) at (width p) ∷ []; comments = s.comments; pending = cond (ends_statement p) (Some (at + width p)) None }) (cond b (line_ended file (noted file at p s)) (noted file at p s))).comments ≡ s.comments ++ comments file at (p ∷ [])
comments_step file at p s true b h = sym (ap (λ c. s.comments ++ (cond c (span file at (width p) ∷ []) [] ++ [])) (token_no_comment (kind p) h) ∙ append-nil s.comments)
comments_step file at p s false true h = ap (λ l. s.comments ++ l) (sym (append-nil (cond (is_comment_kind (kind p)) (span file at (width p) ∷ []) [])))
comments_step file at p s false false h = ap (λ l. s.comments ++ l) (sym (append-nil (cond (is_comment_kind (kind p)) (span file at (width p) ∷ []) [])))

-- what is taken, by the tests
abbrev chosen : ℕ → List Token → List Span → List Span → Option ℕ → Token → ℕ → Bool → Bool → Bool → State
chosen file ts cs ds pending w end t b e = cond t (record { tokens = ts ++ w ∷ []; comments = cs; pending = cond e (Some end) None }) (cond b (record { tokens = ts ++ due file pending; comments = ds; pending = None }) (record { tokens = ts; comments = ds; pending = pending }))

step_by : (file : ℕ) (ts : List Token) (cs ds : List Span) (pending : Option ℕ) (w : Token) (end : ℕ) (t b e l : Bool) (xs : List Token) →
    (ts ++ owed file pending (cond t false (b || l))) ++ (cond t (w ∷ cond (e && l) (inserted file end ∷ []) []) [] ++ xs)
    ≡ ((chosen file ts cs ds pending w end t b e).tokens ++ owed file (chosen file ts cs ds pending w end t b e).pending l) ++ xs
step_by file ts cs ds pending w end true b true l xs =
    ap (λ o. (ts ++ o) ++ ((w ∷ cond l (inserted file end ∷ []) []) ++ xs)) (owed_false file pending)
    ∙ ap (λ o. o ++ ((w ∷ cond l (inserted file end ∷ []) []) ++ xs)) (append-nil ts)
    ∙ sym (append_assoc ts (w ∷ cond l (inserted file end ∷ []) []) xs)
    ∙ ap (λ o. o ++ xs) (sym (append_assoc ts (w ∷ []) (cond l (inserted file end ∷ []) [])))
step_by file ts cs ds pending w end true b false l xs =
    ap (λ o. (ts ++ o) ++ ((w ∷ []) ++ xs)) (owed_false file pending)
    ∙ ap (λ o. o ++ ((w ∷ []) ++ xs)) (append-nil ts)
    ∙ sym (append_assoc ts (w ∷ []) xs)
    ∙ ap (λ o. o ++ xs) (sym (append-nil (ts ++ w ∷ [])))
step_by file ts cs ds pending w end false true e l xs = ap (λ o. (ts ++ o) ++ xs) (owed_true file pending) ∙ ap (λ o. o ++ xs) (sym (append-nil (ts ++ due file pending)))
step_by file ts cs ds pending w end false false e l xs = refl

tokens_step : (file at : ℕ) (p : List ℕ) (s : State) (qs : List (List ℕ)) → (s.tokens ++ owed file s.pending (line_ends (p ∷ qs) true)) ++ tokens file at (p ∷ qs) true ≡ ((taken file at p s).tokens ++ owed file (taken file at p s).pending (line_ends qs true)) ++ tokens file (at + width p) qs true
tokens_step file at p s qs = step_by file s.tokens s.comments (noted file at p s).comments s.pending (token file (token_kind p) at (width p)) (at + width p) (is_token p) (is_break p) (ends_statement p) (line_ends qs true) (tokens file (at + width p) qs true)

pub join_two : (ps qs : List (List ℕ)) → join (ps ++ qs) ≡ join ps ++ join qs
join_two [] qs = refl
join_two (p ∷ ps) qs = ap (λ l. p ++ l) (join_two ps qs) ∙ sym (append_assoc p (join ps) (join qs))

so_more : (file : ℕ) (text : List ℕ) (index at : ℕ) (s : State) (p rest : List ℕ) → SoFar file text index at s → drop index text ≡ p ++ rest → drop (index + length p) text ≡ rest → is_piece p ≡ true → IsLongest p rest → is_good p ≡ true → SoFar file text (index + length p) (at + width p) (taken file at p s)
so_more file text index at s p rest so e f piece longest good = record {
  pieces = so.pieces ++ p ∷ [];
  whole = join_append so.pieces (p ∷ []) (drop (index + length p) text) ∙ ap (λ l. join so.pieces ++ l) (sym here) ∙ so.whole;
  place = (let joined : width (join (so.pieces ++ p ∷ [])) ≡ width (join so.pieces ++ (p ++ [])) = ap width (join_two so.pieces (p ∷ [])) in omega (arith, joined, width-append (join so.pieces) (p ++ []), width-append p [], width-nil, so.place));
  cut = cut_both so.pieces (p ∷ []) (drop (index + length p) text) (subst (Cut so.pieces) here so.cut) (piece, subst (IsLongest p) (sym f) longest, tt);
  good = all_join so.pieces (p ∷ []) so.good (and_both _ _ good refl);
  noted = comments_step file at p s (is_token p) (is_break p) refl ∙ ap (λ l. l ++ comments file at (p ∷ [])) so.noted ∙ ap (λ a. comments file 0 so.pieces ++ comments file a (p ∷ [])) (let zero_place : at ≡ 0 + width (join so.pieces) = omega (arith, so.place) in zero_place) ∙ sym (comments_append file 0 so.pieces (p ∷ []));
  spelled = λ qs. ap (λ l. tokens file 0 l true) (append_assoc so.pieces (p ∷ []) qs) ∙ so.spelled (p ∷ qs) ∙ tokens_step file at p s qs;
}
  where
    here : drop index text ≡ (p ++ []) ++ drop (index + length p) text
    here = e ∙ ap (λ l. l ++ rest) (sym (append-nil p)) ∙ ap (λ l. (p ++ []) ++ l) (sym f)

drop_more : (n m : ℕ) (l : List ℕ) → drop (n + m) l ≡ drop m (drop n l)
drop_more n m l = sym (drop-drop m n l)

pub so_far_more : (file : ℕ) (text : List ℕ) (index at : ℕ) (s : State) (k : PieceKind) (n : ℕ) (ended : Bool) → SoFar file text index at s → IsFirst (drop index text) k n ended → defect_by k ended (take n (drop index text)) ≡ None → SoFar file text (index + n) (at + width (take n (drop index text))) (taken file at (take n (drop index text)) s)
so_far_more file text index at s k n ended so first right =
    let p : List ℕ = take n (drop index text) in
    let len : length p ≡ n = length-take-le n (drop index text) first.within in
    subst (λ m. SoFar file text (index + m) (at + width p) (taken file at p s)) len
    (so_more file text index at s p (drop n (drop index text)) so (sym (take-append-drop n (drop index text))) (ap (λ m. drop (index + m) text) len ∙ drop_more index n text) first.piece first.longest (ap (λ o. not (is_some o)) (first.judged ∙ right)))

pub so_far_end : (file : ℕ) (text : List ℕ) (index at : ℕ) (s : State) → SoFar file text index at s → length text ≤ index → Lexes file text (line_ended file s).tokens s.comments
so_far_end file text index at s so end =
    let none : drop index text ≡ [] = drop_all index text end in
    record {
      pieces = so.pieces;
      whole = sym (append-nil (join so.pieces)) ∙ ap (λ l. join so.pieces ++ l) (sym none) ∙ so.whole;
      cut = subst (Cut so.pieces) none so.cut;
      good = so.good;
      spelled = sym (ap (λ l. tokens file 0 l true) (sym (append-nil so.pieces)) ∙ so.spelled [] ∙ append-nil (s.tokens ++ owed file s.pending true) ∙ ap (λ l. s.tokens ++ l) (owed_true file s.pending));
      noted = so.noted;
    }

pub so_far_bad : (file : ℕ) (text : List ℕ) (index at : ℕ) (s : State) (k : PieceKind) (n : ℕ) (ended : Bool) (fault : Fault) → SoFar file text index at s → IsFirst (drop index text) k n ended → defect_by k ended (take n (drop index text)) ≡ Some fault.code → fault.span ≡ span file at (covered fault.code (take n (drop index text))) → IsTokenFault file text fault
so_far_bad file text index at s k n ended fault so first wrong place = record {
  pieces = so.pieces;
  bad = take n (drop index text);
  rest = drop n (drop index text);
  whole = ap (λ l. join so.pieces ++ l) (take-append-drop n (drop index text)) ∙ so.whole;
  cut = subst (Cut so.pieces) (sym (take-append-drop n (drop index text))) so.cut;
  good = so.good;
  piece = first.piece;
  longest = first.longest;
  wrong = first.judged ∙ wrong;
  place = place ∙ ap (λ a. span file a (covered fault.code (take n (drop index text)))) so.place;
}

pub so_far_bound : (file : ℕ) (text : List ℕ) (index at : ℕ) (s : State) → SoFar file text index at s → (n : ℕ) → at + width (take n (drop index text)) ≤ width text
so_far_bound file text index at s so n =
    let whole : width (join so.pieces ++ drop index text) ≡ width text = ap width so.whole in
    omega (arith, whole, so.place, width-append (join so.pieces) (drop index text), width_take n (drop index text))

pub covered_bound : (code : FaultCode) (p : List ℕ) → covered code p ≤ width p + 1
covered_bound Outside p = omega arith
covered_bound code p = omega arith
