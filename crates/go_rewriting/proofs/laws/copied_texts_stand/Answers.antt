use Rattle.go_rewriting.proofs.Copied.{copied_text}
use Rattle.go_rewriting.proofs.laws.copied_texts_stand.Goals as goal

pub returns : goal.returns
returns c = λ p end e d t next h. copied_text p.file p.text p.tokens p.from p.upto end p.inner e d t next h.order h.free h.derives h.begins h.ends h.plain
