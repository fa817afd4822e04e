-- The laws of texts and files in which ranges are replaced.
use Rattle.std.proofs.Common.{◌≡◌, ℕ, ◌+◌, ◌≤◌, List, [], ◌++◌, length, map, append-nil, Option, Some, None, refl, sym, ap, ◌∙◌, subst}
use Rattle.std.proofs.lemmas.List.{length-append}
use Rattle.go_base.specs.declared.Span.{Span}
use Rattle.go_tokens.specs.declared.token.Token.{Token}
use Rattle.go_tokens.specs.declared.token.TokenKind.{TokenKind}
use Rattle.go_tokens.specs.declared.token.TokenKind.TheVariants as token
use Rattle.go_tokens.specs.Replacing.{read}
use Rattle.go_tokens.specs.Lexing.{Lexes}
use Rattle.go_tokens.specs.Tokens.{kinds}
use Rattle.go_tokens.specs.Editing.{old_text, new_text}
use Rattle.go_tokens.proofs.Public.{one_text}
use Rattle.go_grammar.specs.declared.kind.Category.{Category}
use Rattle.go_grammar.specs.declared.kind.Category.TheVariants as category
use Rattle.go_grammar.specs.Trees.{Tree, depth}
use Rattle.go_grammar.specs.Grammar.{Derives, IsFile}
use Rattle.go_rewriting.specs.Places.{carry, changed, with_declaration, IsDeclaration}
use Rattle.go_rewriting.proofs.Texts.{sites_changed, sites_ended, file_sites_changed, with_one_more}
use Rattle.go_rewriting.specs.Rewriting.{Rewrite, edits, changes, rewritten, move, sites, new_tree, IsRewriting, IsTail, NewTokens, NewDeclaration, AddedFits, extended, IsFileRewriting, NewFile}
use Rattle.go_rewriting.proofs.Tokens.{found}
use Rattle.go_rewriting.proofs.Trees.{sits, placed}

pub new_tokens : (file : ℕ) (c : Category) (ts : List Token) (cs : List Span) (t : Tree) (rs : List Rewrite) (rest tail : List ℕ) (us : List Token) → IsRewriting file c ts cs t rs rest tail → IsTail file tail us → NewTokens file ts rs rest tail us × Derives (changed (changes rs) (kinds ts)) c (new_tree rs t)
new_tokens file c ts cs t rs rest tail us h a =
    let f = found file ts cs rs rest tail us h.lexes h.texts a in
    (f.new, sites_changed (kinds ts) (changes rs) c t (sites (move rs) rs) h.derives (placed (kinds ts) rs c t h.trees f.ascend rs h.trees) f.ascend (sits (kinds ts) rs c t h.trees f.ascend 0 rs refl h.trees) h.agrees)

extended_is : (ts ws : List TokenKind) (t : Tree) (added : Option Tree) → IsFile ts t → AddedFits ws added → IsFile (ts ++ ws) (extended (length ts) ws added t)
extended_is ts ws t None h a = subst (λ us. IsFile us t) (sym (append-nil ts) ∙ ap (λ us. ts ++ us) (sym a)) h
extended_is ts ws t (Some d) h a =
    let far : length (ts ++ ws) ≡ length ts + length ws = length-append ts ws in
    subst (λ n. IsFile (ts ++ ws) (with_declaration t (carry (λ k. length ts + k) d) n)) far (with_one_more ts ws t d h a.derives a.begins a.closed a.all a.shallow)

pub new_file : (file : ℕ) (old new : List ℕ) (ts : List Token) (cs : List Span) (t : Tree) (rs : List Rewrite) (rest tail : List ℕ) (us : List Token) (added : Option Tree) → IsFileRewriting file old new ts cs t rs rest tail us added → NewFile file new ts t rs rest tail us added
new_file file old new ts cs t rs rest tail us added h =
    let l : Lexes file (old_text (edits rs rest)) ts cs = subst (λ x. Lexes file x ts cs) (one_text h.lexing.text (old_text (edits rs rest)) old h.lexing.is_text h.old_bytes) h.lexing.lexes in
    let f = found file ts cs rs rest tail us l h.texts h.appended in
    let tree : IsFile (changed (changes rs) (kinds ts)) (new_tree rs t) = file_sites_changed (kinds ts) (changes rs) t (sites (move rs) rs) h.tree (placed (kinds ts) rs category.File t h.trees f.ascend rs h.trees) f.ascend (sits (kinds ts) rs category.File t h.trees f.ascend 0 rs refl h.trees) h.agrees h.shallow in
    record {
      tokens = f.new.tokens;
      comments = f.new.comments;
      lexing = record { text = new_text (edits rs rest) tail; is_text = h.new_bytes; lexes = f.new.lexes };
      texts = f.new.texts;
      kept = f.new.kept;
      kinds_are = f.new.kinds_are;
      tree = subst (λ ks. IsFile ks (extended (length (changed (changes rs) (kinds ts))) (kinds us) added (new_tree rs t))) (sym f.new.kinds_are) (extended_is (changed (changes rs) (kinds ts)) (kinds us) (new_tree rs t) added tree h.added_fits);
    }

no_tail : (file : ℕ) → IsTail file [] []
no_tail file = record { begins = refl; comments = []; lexes = record { pieces = []; whole = refl; cut = tt; good = refl; spelled = refl; noted = refl } }

pub new_declaration : (file : ℕ) (ts : List Token) (cs : List Span) (t : Tree) (rs : List Rewrite) (rest : List ℕ) → IsRewriting file category.Declaration ts cs t rs rest [] → IsDeclaration (kinds ts) t → depth (new_tree rs t) ≤ 100 → NewDeclaration file ts t rs rest
new_declaration file ts cs t rs rest h d low =
    let f = found file ts cs rs rest [] [] h.lexes h.texts (no_tail file) in
    let e = sites_ended (kinds ts) (changes rs) category.Declaration t (sites (move rs) rs) token.Semicolon (record { derives = d.derives; begins = d.begins; closed = d.closed; all = d.all }) (placed (kinds ts) rs category.Declaration t h.trees f.ascend rs h.trees) f.ascend (sits (kinds ts) rs category.Declaration t h.trees f.ascend 0 rs refl h.trees) h.agrees in
    let same : kinds f.new.tokens ≡ changed (changes rs) (kinds ts) = f.new.kinds_are ∙ append-nil (changed (changes rs) (kinds ts)) in
    record {
      tokens = f.new.tokens;
      comments = f.new.comments;
      lexes = f.new.lexes;
      texts = f.new.texts ∙ append-nil (rewritten rs (map (read (old_text (edits rs rest))) ts));
      kept = f.new.kept;
      kinds_are = same;
      declaration = subst (λ ks. IsDeclaration ks (new_tree rs t)) (sym same) (record { derives = e.derives; begins = e.begins; closed = e.closed; all = e.all; shallow = low });
    }
