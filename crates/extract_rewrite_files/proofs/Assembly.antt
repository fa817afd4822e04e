-- Each file of an extraction is new.
use Rattle.std.proofs.Common.{◌≡◌, ◌∙◌, ℕ, ◌+◌, ◌<◌, ◌≤◌, inl, inr, Bool, true, false, cond, List, [], ◌∷◌, ◌++◌, append-nil, drop, length, map, reverse, Option, Some, None, refl, sym, ap, subst, arith, eq-eqb, eqb-true}
use Rattle.std.specs.Prelude.{◌==◌, nat_eq, slice_get}
use Rattle.std.specs.List.{AllByRecursion}
use Rattle.std.specs.Option.{option_map}
use Rattle.std.specs.Str.{encode_utf8_all}
use Rattle.std.proofs.lemmas.Bool.{and_parts}
use Rattle.go_base.specs.declared.bytes.FileText.{FileText}
use Rattle.go_base.specs.Package.{IsPackage}
use Rattle.go_tokens.specs.declared.token.Token.{Token}
use Rattle.go_tokens.specs.Encoding.{IsText}
use Rattle.go_tokens.specs.Files.{IsLexing}
use Rattle.go_tokens.specs.Tokens.{kinds}
use Rattle.go_grammar.specs.Trees.{Tree}
use Rattle.go_rewriting.specs.Rewriting.{AddedFits, IsFileWellFormed, IsTail}
use Rattle.go_tokens.proofs.Public.{lexes_by_test}
use Rattle.go_tree.specs.File.{FileTree}
use Rattle.go_types.specs.Trees.{TypeTree}
use Rattle.go_typed.specs.declared.window.Window.{Window}
use Rattle.go_typed.specs.Contents.{Content, content}
use Rattle.go_typed.specs.Packages.{PackageView}
use Rattle.go_package_defs.specs.Checked.{AreRead, texts_of}
use Rattle.edit_apply.specs.declared.edits.Edit.{Edit}
use Rattle.edit_apply.specs.Applied.{Descends, IsInRange, applied}
use Rattle.param_choose.specs.Choosing.{chosen_of}
use Rattle.param_choose.specs.Members.{Member, member_of, members_of, template_of}
use Rattle.escape_check.specs.Apart as tokens
use Rattle.escape_check.specs.Places.{file_of, sources_of}
use Rattle.escape_check.specs.Types.{declared_text}
use Rattle.extract_texts.specs.Texts.{call_of, call_text, function_for, window_bytes}
use Rattle.extract_rewrite.specs.Edits.{edit_at, edits, file_end, function_edit, window_edit}
use Rattle.extract_rewrite.specs.Order.{begin_together, by_place, from_the_end}
use Rattle.extract_rewrite.specs.Ready.{CanBeDone}
use Rattle.extract_rewrite.specs.Renewed.{OtherBytesStay, edits_in, renewed}
use Rattle.extract_files.specs.Extracted.{ExtractedFilesAreRewritten, with_texts}
use Rattle.extract_files.specs.Files.{called_text, file_text, rewriting_of}
use Rattle.extract_files.specs.Levels.{CalledFilesHaveOneTree, HasOneTree}
use Rattle.go_print_laws.specs.Calls.{CallCanBeWritten}
use Rattle.go_print_laws.specs.Functions.{function_tree}
use Rattle.go_rewriting.specs.Places.{IsDeclaration}
use Rattle.extract_files.specs.Functions.{extracted_function}
use Rattle.extract_files.specs.Holes.{named_trees, named_words}
use Rattle.extract_texts.specs.Texts as template_text
use Rattle.extract_rewrite_files.specs.Behind.{StandsBehind, names_for}
use Rattle.extract_rewrite_files.specs.NewFiles.{BecomesNew, IsOneOf, behind_file, called_file}
use Rattle.extract_rewrite_files.specs.Signatures.{HasFront}
use Rattle.extract_rewrite_files.proofs.CheckedFiles.{HasText}
use Rattle.go_function_places.specs.Places.{HavePlaces}
use Rattle.extract_rewrite_files.proofs.Complete.{InFunction, all_in}
use Rattle.extract_rewrite_files.proofs.Facts.{Fact, file_read, has_bytes, lexes_of}
use Rattle.extract_rewrite_files.proofs.FileEdits.{AreEdits, Comes, HasBytes, bytes_file, file_edits, function_there, member_there, not_behind, nothing_there}
use Rattle.extract_rewrite_files.proofs.Placed.{Follow, IsIn, all_kept, all_placed, all_turned, apart, follow, placed_again, places_rise}
use Rattle.extract_rewrite_files.proofs.Renewing.{none_behind, one_behind, renewed_is}
use Rattle.extract_rewrite_files.specs.Sites.{IsSite}
use Rattle.extract_rewrite_files.proofs.Sites.{Known}
use Rattle.extract_rewrite_files.proofs.Splits.{all_to, same_some}
use Rattle.extract_rewrite_files.proofs.Windows.{IsMember, called}

-- ---- nothing behind a file

no_tail : (n : ℕ) → IsTail n [] []
no_tail n = record { begins = refl; comments = []; lexes = lexes_by_test n [] refl }

no_text : IsText [] []
no_text = record { scalars = refl; encoded = refl; allowed = refl }

-- What is appended to a file.
record Appended (n : ℕ) (bytes : List ℕ) : Type 0 where
  tail : List ℕ
  tokens : List Token
  added : Option Tree
  is_text : IsText tail bytes
  is_tail : IsTail n tail tokens
  fits : AddedFits (kinds tokens) added

pub each_one : {A : Type 0} (xs : List A) → AllByRecursion (λ x. IsOneOf x xs) xs
each_one [] = tt
each_one (x ∷ xs) = (inl refl, all_to {P = λ y. IsOneOf y xs} {Q = λ y. IsOneOf y (x ∷ xs)} (λ y h. inr h) xs (each_one xs))

some_text : (o : Option FileText) (b : List ℕ) → option_map (λ g. g.bytes) o ≡ Some b → (g : FileText) × (o ≡ Some g) × (g.bytes ≡ b)
some_text None b e = absurd cc
some_text (Some g) b e = (g, refl, same_some g.bytes b e)

apart_from : (e d : Edit) → (e.file ≡ d.file → e.start < d.start) → begin_together e d ≡ false
apart_from e d h = by (begin_together e d) refl
  where
    by : (b : Bool) → begin_together e d ≡ b → begin_together e d ≡ false
    by false k = k
    by true k =
        let both = and_parts (nat_eq e.file d.file) (nat_eq e.start d.start) k in
        let lt = h (eqb-true e.file d.file both.0) in
        let same = eqb-true e.start d.start both.1 in
        absurd (omega (arith, lt, same))

-- what the laws of files and of edits say
pub record Laws : Type 0 where
  pub known : Known
  pub stay : OtherBytesStay
  pub rewritten : ExtractedFilesAreRewritten
  pub one_tree : CalledFilesHaveOneTree

module _ (laws : Laws) (p : PackageView) (name : List ℕ) (ws : List Window) (t : Member TypeTree) (within : IsPackage (texts_of p)) (read : AreRead 0 (texts_of p) p.files) (there : template_of (content p) ws ≡ Some t)
    (done : CanBeDone (texts_of p) (edits (content p) name ws)) where
  abbrev c : Content
  c = content p

  -- a member as it is known
  abbrev pub Known_member : Member TypeTree → Type 0
  Known_member m = Fact c m × CallCanBeWritten (declared_text (sources_of c)) (call_of (λ x. x) (sources_of c) name t (chosen_of c ws) m) × IsOneOf m (members_of c ws)

  abbrev bytes_known : (m : Member TypeTree) → Known_member m → HasBytes c m
  bytes_known m k = has_bytes laws.known c (texts_of p) read m k.0

  abbrev function : Edit
  function = edit_at (file_end (sources_of c) t) (function_for c name ws)

  abbrev all_edits : List Edit
  all_edits = function ∷ map (window_edit c name ws) (members_of c ws)

  abbrev in_order : List Edit
  in_order = by_place all_edits

  edits_are : edits c name ws ≡ reverse (by_place all_edits)
  edits_are = ap (λ o. from_the_end (function_edit c name ws o ++ map (window_edit c name ws) (members_of c ws))) there

  ordered : Follow in_order
  ordered = follow in_order (subst Descends edits_are done.descends)

  in_range : AllByRecursion (IsInRange (texts_of p)) in_order
  in_range = all_turned (IsInRange (texts_of p)) in_order (subst (AllByRecursion (IsInRange (texts_of p))) edits_are done.ranges)

  -- the bytes of a file behind the edits
  bytes_then : (n : ℕ) (x : FileText) → slice_get (texts_of p) n ≡ Some x → option_map (λ g. g.bytes) (slice_get (applied (texts_of p) (edits c name ws)) n) ≡ Some (renewed x.bytes 0 (edits_in n in_order))
  bytes_then n x e =
      let again : by_place in_order ≡ in_order = placed_again in_order (places_rise all_edits) in
      let then = laws.stay (texts_of p) in_order within.ascends in_range (apart in_order ordered) n x e in
      ap (λ l. option_map (λ g. g.bytes) (slice_get (applied (texts_of p) l) n)) (edits_are ∙ sym (ap reverse again)) ∙ then ∙ ap (λ l. Some (renewed x.bytes 0 (edits_in n l))) again

  module _ (known : AllByRecursion Known_member (members_of c ws)) (have : HavePlaces c) (inside : AllByRecursion (InFunction c have.places) (members_of c ws)) (apart_members : tokens.AllApart (members_of c ws)) where
    abbrev ComesHere : Edit → Type 0
    ComesHere = Comes c name ws t Known_member bytes_known

    members_come : (ms : List (Member TypeTree)) → AllByRecursion Known_member ms → AllByRecursion ComesHere (map (window_edit c name ws) ms)
    members_come [] a = tt
    members_come (m ∷ ms) a = (inl (m, a.0, refl), members_come ms a.1)

    all_come : AllByRecursion ComesHere in_order
    all_come = all_placed ComesHere [] all_edits tt (inr refl, members_come (members_of c ws) known)

    none_together : (ms : List (Member TypeTree)) → AllByRecursion Known_member ms → AllByRecursion (λ e. begin_together e function ≡ false) (map (window_edit c name ws) ms)
    none_together [] a = tt
    none_together (m ∷ ms) a =
        (apart_from (window_edit c name ws m) function (λ same. not_behind c name ws t Known_member bytes_known m a.0 (sym (bytes_file c m (bytes_known m a.0)) ∙ same)), none_together ms a.1)

    function_in : IsIn function in_order
    function_in = all_kept (function ∷ []) (map (window_edit c name ws) (members_of c ws)) function (none_together (members_of c ws) known) (inl refl)

    in_functions : (ms : List (Member TypeTree)) → AllByRecursion Known_member ms → AllByRecursion (InFunction c have.places) ms → AllByRecursion (λ m. Fact c m × InFunction c have.places m) ms
    in_functions [] a b = tt
    in_functions (m ∷ ms) a b = ((a.0.0, b.0), in_functions ms a.1 b.1)

    -- the edit of each member is there
    members_in : AllByRecursion (λ m. IsIn (window_edit c name ws m) in_order) (members_of c ws)
    members_in = all_in laws.known c (texts_of p) read have name ws (function ∷ []) (members_of c ws) (in_functions (members_of c ws) known inside) apart_members

    abbrev AreHere : ℕ → List Edit → Type 0
    AreHere n es = AreEdits c name ws t Known_member bytes_known n 0 es

    edits_here : (n : ℕ) → AreHere n (edits_in n in_order)
    edits_here n = file_edits c name ws t Known_member bytes_known n in_order all_come ordered (places_rise all_edits)

    module _ (n : ℕ) (f : FileTree) (e : slice_get p.files n ≡ Some f) where
      abbrev text_here : HasText (texts_of p) n 0 f
      text_here = file_read laws.known c (texts_of p) read n f e

      in_file : (m : Member TypeTree) → Known_member m × (file_of (sources_of c) m ≡ n) → IsMember (sources_of c) name t (chosen_of c ws) f m
      in_file m k =
          let q = k.0.0 in
          let at : slice_get c.files (file_of (sources_of c) m) ≡ Some f = ap (slice_get c.files) k.1 ∙ e in
          record { there = at; site = subst (λ g. IsSite g m) (same_some q.place.file f (sym q.place.there ∙ at)) q.place.site; written = k.0.1 }

      ends_here : (m : Member TypeTree) → Known_member m × (file_of (sources_of c) m ≡ n) → (member_of c m.window ≡ Some m) × ((window_bytes (sources_of c) m).end ≤ length text_here.text.bytes)
      ends_here m k =
          let b = bytes_known m k.0 in
          let same : b.file ≡ f = same_some b.file f (sym b.there ∙ ap (slice_get c.files) k.1 ∙ e) in
          let long : length b.file.tokens.text ≡ length text_here.text.bytes = ap (λ (g : FileTree). length g.tokens.text) same ∙ ap length text_here.read.bytes in
          (k.0.0.own, (let le = b.within in omega (arith, le, long)))

      all_here : (ms : List (Member TypeTree)) → AllByRecursion Known_member ms → AllByRecursion (λ m. IsIn (window_edit c name ws m) in_order) ms
          → AllByRecursion (λ m. file_of (sources_of c) m ≡ n → IsOneOf (window_edit c name ws m) (map (window_edit c name ws) (edits_here n).members)) ms
      all_here [] a b = tt
      all_here (m ∷ ms) a b = ((λ same. member_there c name ws t Known_member bytes_known n in_order (edits_here n) m a.0 same b.0), all_here ms a.1 b.1)

      -- the bytes of its members' calls in place of their windows
      abbrev called_bytes : List ℕ
      called_bytes = with_texts text_here.text.bytes 0 (map (window_bytes (sources_of c)) (edits_here n).members) (map (call_text (λ x. x) (sources_of c) name t (chosen_of c ws)) (edits_here n).members)

      -- its bytes behind the edits, where this is appended
      bytes_there : (tb : List ℕ) → ((at : ℕ) → at ≤ length text_here.text.bytes → renewed text_here.text.bytes at (edits_here n).tail ≡ drop at text_here.text.bytes ++ tb)
          → (g : FileText) × (slice_get (applied (texts_of p) (edits c name ws)) n ≡ Some g) × (g.bytes ≡ called_bytes ++ tb)
      bytes_there tb law =
          let r = edits_here n in
          let g = some_text (slice_get (applied (texts_of p) (edits c name ws)) n) _ (bytes_then n text_here.text text_here.there) in (
            g.0,
            g.1,
            g.2 ∙ ap (renewed text_here.text.bytes 0) r.is
                ∙ renewed_is c name ws t there text_here.text.bytes tb r.tail law r.members 0 (omega arith)
                (all_to {P = λ m. Known_member m × (file_of (sources_of c) m ≡ n)} {Q = λ m. (member_of c m.window ≡ Some m) × ((window_bytes (sources_of c) m).end ≤ length text_here.text.bytes)} ends_here r.members r.are),
          )

      -- with its calls alone it has one derivation
      with_front : (tb : List ℕ) → tb ≡ behind_file c name ws t n → ((at : ℕ) → at ≤ length text_here.text.bytes → renewed text_here.text.bytes at (edits_here n).tail ≡ drop at text_here.text.bytes ++ tb) → HasFront p name ws t n
      with_front tb is law =
          let r = edits_here n in
          let l = lexes_of laws.known c (texts_of p) read n f text_here in
          let cutting = called laws.known (sources_of c) name t (chosen_of c ws) n f text_here.read.lexing.text l text_here.read.tree.derives r.members
          (all_to {P = λ m. Known_member m × (file_of (sources_of c) m ≡ n)} {Q = IsMember (sources_of c) name t (chosen_of c ws) f} in_file r.members r.are) r.row [] [] None (no_tail n) refl in
          let w = called_file (sources_of c) n f cutting.windows cutting.rest [] cutting.tail_tokens None in
          let new = laws.rewritten (sources_of c) name t (chosen_of c ws) r.members w cutting.extracted in
          let text : IsText (file_text cutting.windows cutting.rest) f.tokens.text =
          subst (λ y. IsText y f.tokens.text) cutting.text_is (subst (IsText text_here.read.lexing.text) (sym text_here.read.bytes) text_here.read.lexing.is_text) in
          let old : encode_utf8_all (file_text cutting.windows cutting.rest) ≡ text_here.text.bytes = text.encoded ∙ text_here.read.bytes in
          let written : encode_utf8_all (called_text (declared_text (sources_of c)) cutting.windows (cutting.rest ++ [])) ≡ called_bytes =
          new.bytes ∙ append-nil (with_texts (encode_utf8_all (file_text cutting.windows cutting.rest)) 0 (map (window_bytes (sources_of c)) r.members) (map (call_text (λ x. x) (sources_of c) name t (chosen_of c ws)) r.members))
          ∙ (λ j. with_texts (old j) 0 (map (window_bytes (sources_of c)) r.members) (map (call_text (λ x. x) (sources_of c) name t (chosen_of c ws)) r.members)) in
          let g = bytes_there tb law in
          record {
            text = g.0;
            there = g.1;
            front = encode_utf8_all (called_text (declared_text (sources_of c)) cutting.windows (cutting.rest ++ []));
            one_tree = laws.one_tree w cutting.extracted.called (record { derives = text_here.read.tree.derives; begins = text_here.read.tree.begins; ends = text_here.read.tree.ends }) f.tokens.text [] text no_text;
            is = g.2 ∙ (λ j. sym written j ++ is j);
          }

      -- the file, with what is appended, and the edit that appends it
      with_tail : (tb : List ℕ) (b : Appended n tb) → tb ≡ behind_file c name ws t n
          → ((at : ℕ) → at ≤ length text_here.text.bytes → renewed text_here.text.bytes at (edits_here n).tail ≡ drop at text_here.text.bytes ++ tb) → BecomesNew p name ws t n f
      with_tail tb b is law =
          let r = edits_here n in
          let x = text_here.text in
          let l = lexes_of laws.known c (texts_of p) read n f text_here in
          let cutting = called laws.known (sources_of c) name t (chosen_of c ws) n f text_here.read.lexing.text l text_here.read.tree.derives r.members
          (all_to {P = λ m. Known_member m × (file_of (sources_of c) m ≡ n)} {Q = IsMember (sources_of c) name t (chosen_of c ws) f} in_file r.members r.are) r.row b.tail b.tokens b.added b.is_tail b.fits in
          let w = called_file (sources_of c) n f cutting.windows cutting.rest b.tail cutting.tail_tokens b.added in
          let new = laws.rewritten (sources_of c) name t (chosen_of c ws) r.members w cutting.extracted in
          let text : IsText (file_text cutting.windows cutting.rest) f.tokens.text =
          subst (λ y. IsText y f.tokens.text) cutting.text_is (subst (IsText text_here.read.lexing.text) (sym text_here.read.bytes) text_here.read.lexing.is_text) in
          let lexing : IsLexing n f.tokens.text f.tokens.tokens f.tokens.comments =
          subst (λ y. IsLexing n y f.tokens.tokens f.tokens.comments) (sym text_here.read.bytes) (subst (λ k. IsLexing k text_here.text.bytes f.tokens.tokens f.tokens.comments)
          (let z : 0 + n ≡ n = omega arith in z) text_here.read.lexing) in
          let g = bytes_there tb law in
          let old : encode_utf8_all (file_text cutting.windows cutting.rest) ≡ text_here.text.bytes = text.encoded ∙ text_here.read.bytes in
          let written : encode_utf8_all (called_text (declared_text (sources_of c)) cutting.windows (cutting.rest ++ b.tail))
          ≡ with_texts text_here.text.bytes 0 (map (window_bytes (sources_of c)) r.members) (map (call_text (λ x. x) (sources_of c) name t (chosen_of c ws)) r.members) ++ tb =
          new.bytes ∙ (λ j. with_texts (old j) 0 (map (window_bytes (sources_of c)) r.members) (map (call_text (λ x. x) (sources_of c) name t (chosen_of c ws)) r.members) ++ b.is_text.encoded j) in
          let bytes : g.0.bytes ≡ encode_utf8_all (called_text (declared_text (sources_of c)) cutting.windows (cutting.rest ++ b.tail)) =
          g.2 ∙ sym written in
          let one = laws.one_tree w cutting.extracted.called (record { derives = text_here.read.tree.derives; begins = text_here.read.tree.begins; ends = text_here.read.tree.ends }) f.tokens.text tb text b.is_text in
          record {
            text = g.0;
            there = g.1;
            is = record {
              members = r.members;
              are = all_to {P = λ m. Known_member m × (file_of (sources_of c) m ≡ n)} {Q = λ m. IsOneOf m (members_of c ws) × (file_of (sources_of c) m ≡ n)} (λ m k. (k.0.2, k.1)) r.members r.are;
              all = all_here (members_of c ws) known members_in;
              windows = cutting.windows;
              rest = cutting.rest;
              text = text;
              tail = b.tail;
              tail_tokens = cutting.tail_tokens;
              added = b.added;
              behind = subst (IsText b.tail) is b.is_text;
              extracted = cutting.extracted;
              rewritten = new;
              new = bytes;
              as_file = λ low. subst (λ y. IsFileWellFormed (record { text = rewriting_of w new.rewritten.ranges; old = f.tokens.text; new = y; added = b.added })) (sym bytes)
                  (new.rewritten.as_file f.tokens.text tb text b.is_text lexing text_here.read.tree low);
              one_tree = subst (HasOneTree n) (sym bytes) one;
            };
          }

      -- nothing is appended
      unchanged_there : (n ≡ file_of (sources_of c) t → ⊥) → (at : ℕ) → at ≤ length text_here.text.bytes → renewed text_here.text.bytes at (edits_here n).tail ≡ drop at text_here.text.bytes ++ []
      unchanged_there other at le = ap (renewed text_here.text.bytes at) (nothing_there c name ws t Known_member bytes_known n in_order (edits_here n) other) ∙ none_behind text_here.text.bytes at le

      unchanged_end : (n ≡ file_of (sources_of c) t → ⊥) → [] ≡ behind_file c name ws t n → BecomesNew p name ws t n f
      unchanged_end other is = with_tail [] (record { tail = []; tokens = []; added = None; is_text = no_text; is_tail = no_tail n; fits = refl }) is (unchanged_there other)

      -- the function is
      function_appended : n ≡ file_of (sources_of c) t → (at : ℕ) → at ≤ length text_here.text.bytes → renewed text_here.text.bytes at (edits_here n).tail ≡ drop at text_here.text.bytes ++ function_for c name ws
      function_appended same at le =
          let one = function_there c name ws t Known_member bytes_known n in_order (edits_here n) same function_in in
          let long : length (template_text.file_text (sources_of c) t) ≡ length text_here.text.bytes = ap (λ o. length (template_text.text_of o)) (ap (slice_get c.files) (sym same) ∙ e) ∙ ap length text_here.read.bytes in
          ap (renewed text_here.text.bytes at) one ∙ one_behind text_here.text.bytes function long long at le

      function_end : n ≡ file_of (sources_of c) t → function_for c name ws ≡ behind_file c name ws t n → StandsBehind c name ws t → BecomesNew p name ws t n f
      function_end same is b =
          with_tail (function_for c name ws) (record {
            tail = b.stands.text;
            tokens = b.stands.tokens;
            added = Some (function_tree (extracted_function (sources_of c) name (names_for c name ws) t (chosen_of c ws)) (length (named_words b.template)) (named_trees b.template));
            is_text = b.stands.is_text;
            is_tail = subst (λ k. IsTail k b.stands.text b.stands.tokens) (sym same) b.stands.tail;
            fits = subst (λ ks. IsDeclaration ks (function_tree (extracted_function (sources_of c) name (names_for c name ws) t (chosen_of c ws)) (length (named_words b.template)) (named_trees b.template)))
                (sym b.stands.kinds_are) b.stands.declaration;
          }) is (function_appended same)

      -- whether this is the template's file
      either : (R : Type 0) → (n ≡ file_of (sources_of c) t → function_for c name ws ≡ behind_file c name ws t n → R) → ((n ≡ file_of (sources_of c) t → ⊥) → [] ≡ behind_file c name ws t n → R) → R
      either R here elsewhere = by (n == file_of (sources_of c) t) refl
        where
          by : (q : Bool) → (n == file_of (sources_of c) t) ≡ q → R
          by true k = here (eqb-true n (file_of (sources_of c) t) k) (ap (λ x. cond x (function_for c name ws) []) (sym k))
          by false k = elsewhere (λ same. let yes : (n == file_of (sources_of c) t) ≡ true = eq-eqb n (file_of (sources_of c) t) same in absurd cc) (ap (λ x. cond x (function_for c name ws) []) (sym k))

      pub file_new : (n ≡ file_of (sources_of c) t → StandsBehind c name ws t) → BecomesNew p name ws t n f
      file_new b = either (BecomesNew p name ws t n f) (λ same is. function_end same is (b same)) unchanged_end

      pub file_front : HasFront p name ws t n
      file_front = either (HasFront p name ws t n) (λ same is. with_front (function_for c name ws) is (function_appended same)) (λ other is. with_front [] is (unchanged_there other))
