-- Tokens that are written one after another come to the same as all at once.
use Rattle.std.proofs.Common.{◌≡◌, ℕ, ◌+◌, List, ◌∷◌, ◌++◌, length, sym, refl, ap, ◌∙◌, append_assoc, arith, length-append}
use Rattle.common.specs.declared.fixup.DebugInfoFixup.{DebugInfoFixup}
use Rattle.dwarf.specs.Bytes.{bytes_of, joined, size_of}
use Rattle.dwarf.specs.Leb.{uleb}
use Rattle.dwarf.specs.References.{references}
use Rattle.dwarf.specs.Tokens.{Tokens, done, code, unsigned, signed, fixed, displacement, block, short, nested, reference, raw}
use Rattle.dwarf.proofs.Joining.{bytes_joined, references-joined}
use Rattle.dwarf.proofs.Sizes.{length_bytes}
use Rattle.writer.specs.Meaning.{Sink, holding}
use Rattle.emit.specs.Walk.{grown, come}

pub joined_assoc : (a b c : Tokens) → joined (joined a b) c ≡ joined a (joined b c)
unfolding joined
joined_assoc done b c = refl
joined_assoc (code n ts) b c = ap (code n) (joined_assoc ts b c)
joined_assoc (unsigned n ts) b c = ap (unsigned n) (joined_assoc ts b c)
joined_assoc (signed z ts) b c = ap (signed z) (joined_assoc ts b c)
joined_assoc (fixed width n ts) b c = ap (fixed width n) (joined_assoc ts b c)
joined_assoc (displacement z ts) b c = ap (displacement z) (joined_assoc ts b c)
joined_assoc (block bytes ts) b c = ap (block bytes) (joined_assoc ts b c)
joined_assoc (short bytes ts) b c = ap (short bytes) (joined_assoc ts b c)
joined_assoc (nested inner ts) b c = ap (nested inner) (joined_assoc ts b c)
joined_assoc (reference width unit entry ts) b c = ap (reference width unit entry) (joined_assoc ts b c)
joined_assoc (raw bytes ts) b c = ap (raw bytes) (joined_assoc ts b c)

-- two ways to what is written and pending
pair : (k : Sink) (x y : List ℕ) (p q : List DebugInfoFixup) → x ≡ y → p ≡ q → ◌≡◌ {A = Sink × List DebugInfoFixup} (holding k x, p) (holding k y, q)
pair k x y p q e f = ap (λ (l : List ℕ). (holding k l, p)) e ∙ ap (λ (r : List DebugInfoFixup). (holding k y, r)) f

pub come-joined : (k : Sink) (rows : List DebugInfoFixup) (a b : Tokens) →
    come (grown k (bytes_of k.big a)) (rows ++ references (length k.content) a) b ≡ come k rows (joined a b)
come-joined k rows a b =
    let n = length k.content in
    let m = length (k.content ++ bytes_of k.big a) in
    let l : m ≡ n + size_of a = length-append k.content (bytes_of k.big a) ∙ ap (λ i. n + i) (length_bytes k.big a) in
    pair k ((k.content ++ bytes_of k.big a) ++ bytes_of k.big b) (k.content ++ bytes_of k.big (joined a b))
    ((rows ++ references n a) ++ references m b) (rows ++ references n (joined a b))
    (append_assoc k.content (bytes_of k.big a) (bytes_of k.big b) ∙ ap (λ z. k.content ++ z) (sym (bytes_joined k.big a b)))
    (append_assoc rows (references n a) (references m b) ∙ ap (λ z. rows ++ z) (sym (references-joined n m a b l)))

-- a nested block is its length, and then what it holds
pub come-nested : (k : Sink) (rows : List DebugInfoFixup) (c : ℕ) (a r b : Tokens) →
    come (grown k (c ∷ uleb (size_of a))) rows (joined a (joined r b)) ≡ come k rows (joined (code c (nested a r)) b)
unfolding joined bytes_of references
come-nested k rows c a r b =
    let t = joined r b in
    let n = length k.content in
    let m = length (k.content ++ (c ∷ uleb (size_of a))) in
    let l : m ≡ n + 1 + length (uleb (size_of a)) = length-append k.content (c ∷ uleb (size_of a)) ∙ omega arith in
    let x : (c ∷ uleb (size_of a)) ++ bytes_of k.big (joined a t) ≡ c ∷ (uleb (length (bytes_of k.big a)) ++ (bytes_of k.big a ++ bytes_of k.big t)) =
    ap (λ z. c ∷ (uleb (size_of a) ++ z)) (bytes_joined k.big a t) ∙ ap (λ i. c ∷ (uleb i ++ (bytes_of k.big a ++ bytes_of k.big t))) (sym (length_bytes k.big a)) in
    pair k ((k.content ++ (c ∷ uleb (size_of a))) ++ bytes_of k.big (joined a t)) (k.content ++ bytes_of k.big (code c (nested a t)))
    (rows ++ references m (joined a t)) (rows ++ references n (code c (nested a t)))
    (append_assoc k.content (c ∷ uleb (size_of a)) (bytes_of k.big (joined a t)) ∙ ap (λ z. k.content ++ z) x)
    (ap (λ z. rows ++ z) (references-joined m (m + size_of a) a t refl ∙ ap (λ (i : ℕ). references i a ++ references (i + size_of a) t) l))
