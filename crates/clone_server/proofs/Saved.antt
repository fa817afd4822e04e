-- Files that are put into a folder, one after the other.
use Rattle.std.proofs.Common.{◌≡◌, ℕ, zero, suc, ◌+◌, List, [], ◌∷◌, ◌++◌, take, drop, Option, Some, slice_get, Ok, Err, refl, sym, ap, subst, ◌∙◌, add-one}
use Rattle.std.proofs.lemmas.List.{take-append-drop}
use Rattle.go_base.specs.declared.bytes.FileText.{FileText}
use Rattle.port_io.specs.declared.folder.FolderError.{FolderError}
use Rattle.port_io.specs.declared.folder.FolderError.TheVariants as folder
use Rattle.port_io.specs.Held.{Held, with_file}
use Rattle.port_io.specs.Folders.{Writes}
use Rattle.clone_server.specs.Session.{with_files}
use Rattle.clone_server.specs.Serving.{Saves}

with_files_more : (held : Held) (dir : List ℕ) (fs : List FileText) (f : FileText) → with_files held dir (fs ++ f ∷ []) ≡ with_file (with_files held dir fs) dir f.name f.bytes
with_files_more held dir [] f = refl
with_files_more held dir (g ∷ gs) f = with_files_more (with_file held dir g.name g.bytes) dir gs f

take_suc : (fs : List FileText) (n : ℕ) (f : FileText) → slice_get fs n ≡ Some f → take (suc n) fs ≡ take n fs ++ f ∷ []
take_suc [] zero f h = cc
take_suc [] (suc n) f h = cc
take_suc (g ∷ gs) zero f h = ap (λ x. x ∷ []) (let e : g ≡ f = cc in e)
take_suc (g ∷ gs) (suc n) f h = ap (λ l. g ∷ l) (take_suc gs n f h)

split : (fs : List FileText) (n : ℕ) (f : FileText) → slice_get fs n ≡ Some f → fs ≡ take n fs ++ f ∷ drop (suc n) fs
split [] zero f h = cc
split [] (suc n) f h = cc
split (g ∷ gs) zero f h = ap (λ x. x ∷ gs) (let e : g ≡ f = cc in e)
split (g ∷ gs) (suc n) f h = ap (λ l. g ∷ l) (split gs n f h)

write_ok : (o new : Option Held) (ch : Option (List ℕ)) (held : Held) (dir name bytes : List ℕ) → Writes (Ok tt) o new ch name bytes → o ≡ Some held → ch ≡ Some dir → new ≡ Some (with_file held dir name bytes)
write_ok o new ch held dir name bytes w e f = here (subst (λ x. Writes (Ok tt) x new (Some dir) name bytes) e (subst (λ x. Writes (Ok tt) o new x name bytes) f w))
  where
    here : Writes (Ok tt) (Some held) new (Some dir) name bytes → new ≡ Some (with_file held dir name bytes)
    here h = h

pub saved_more : (held : Held) (dir : List ℕ) (fs : List FileText) (n : ℕ) (f : FileText) (o new : Option Held) (ch : Option (List ℕ)) → slice_get fs n ≡ Some f →
    o ≡ Some (with_files held dir (take n fs)) → ch ≡ Some dir → Writes (Ok tt) o new ch f.name f.bytes → new ≡ Some (with_files held dir (take (n + 1) fs))
saved_more held dir fs n f o new ch at e c w =
    write_ok o new ch (with_files held dir (take n fs)) dir f.name f.bytes w e c
    ∙ ap Some (sym (with_files_more held dir (take n fs) f) ∙ ap (with_files held dir) (sym (take_suc fs n f at)) ∙ ap (λ k. with_files held dir (take k fs)) (sym (add-one n)))

pub saved_stop : (held : Held) (dir : List ℕ) (fs : List FileText) (n : ℕ) (f : FileText) (o new : Option Held) (ch : Option (List ℕ)) (e : FolderError) → slice_get fs n ≡ Some f →
    o ≡ Some (with_files held dir (take n fs)) → ch ≡ Some dir → Writes (Err e) o new ch f.name f.bytes → Saves (Err e) held dir fs new
saved_stop held dir fs n f o new ch folder.Failed at eo ec w =
    let h = subst (λ x. Writes (Err folder.Failed) x new (Some dir) f.name f.bytes) eo (subst (λ x. Writes (Err folder.Failed) o new x f.name f.bytes) ec w) in
    (take n fs, f, drop (suc n) fs, split fs n f at, h.0, h.1, h.2)
saved_stop held dir fs n f o new ch folder.Memory at eo ec w =
    let h = subst (λ x. Writes (Err folder.Memory) x new (Some dir) f.name f.bytes) eo (subst (λ x. Writes (Err folder.Memory) o new x f.name f.bytes) ec w) in
    (take n fs, drop n fs, sym (take-append-drop n fs), h)

-- memory ran out before the next file was written
pub saved_front : (held : Held) (dir : List ℕ) (fs : List FileText) (n : ℕ) (o : Option Held) → o ≡ Some (with_files held dir (take n fs)) → Saves (Err folder.Memory) held dir fs o
saved_front held dir fs n o e = (take n fs, drop n fs, sym (take-append-drop n fs), e)
