-- Bytes in words.
use Rattle.std.proofs.Common.{◌≡◌, ℕ, zero, suc, ◌+◌, ◌*◌, ◌/◌, ◌%◌, ◌<◌, List, [], ◌∷◌, ◌++◌, length, get_or, set, sym, refl, ap, ◌∙◌, arith}
use Rattle.std.proofs.lemmas.List.{set-append_left, get_or_append_left}
use Rattle.sinks.specs.Words.{word_bytes, spread}

pub length-spread : (t : List ℕ) → length (spread t) ≡ 4 * length t
unfolding spread
length-spread [] = refl
length-spread (w ∷ ws) = let e = length-spread ws in omega arith

pub spread-set : (t : List ℕ) (q r w b : ℕ) → q < length t → r < 4 → word_bytes w ≡ set (word_bytes (get_or t q 0)) r b →
    spread (set t q w) ≡ set (spread t) (4 * q + r) b
unfolding spread
spread-set [] q r w b h l e = absurd (omega arith)
spread-set (x ∷ t) zero r w b h l e =
    let z : 4 * 0 + r ≡ r = omega arith in
    rw z (ap (λ y. y ++ spread t) e ∙ sym (set-append_left (word_bytes x) (spread t) r b l))
spread-set (x ∷ t) (suc q) r w b h l e =
    let z : 4 * suc q + r ≡ suc (suc (suc (suc (4 * q + r)))) = omega arith in
    rw z (ap (λ y. word_bytes x ++ y) (spread-set t q r w b (omega arith) l e))

pub word_got : (t : List ℕ) (q r : ℕ) → q < length t → r < 4 → get_or (word_bytes (get_or t q 0)) r 0 ≡ get_or (spread t) (4 * q + r) 0
unfolding spread
word_got [] q r h l = absurd (omega arith)
word_got (x ∷ t) zero r h l =
    let z : 4 * 0 + r ≡ r = omega arith in
    rw z (sym (get_or_append_left (word_bytes x) (spread t) 0 r l))
word_got (x ∷ t) (suc q) r h l =
    let z : 4 * suc q + r ≡ suc (suc (suc (suc (4 * q + r)))) = omega arith in
    rw z (word_got t q r (omega arith) l)

-- four bytes as a word
abbrev pub word_of : List ℕ → ℕ
word_of l = get_or l 0 0 * 16777216 + get_or l 1 0 * 65536 + get_or l 2 0 * 256 + get_or l 3 0

four : {a b c d a' b' c' d' : ℕ} → a ≡ a' → b ≡ b' → c ≡ c' → d ≡ d' → ◌≡◌ {A = List ℕ} (a ∷ b ∷ c ∷ d ∷ []) (a' ∷ b' ∷ c' ∷ d' ∷ [])
four p q r s = cc

word_back : (a b c d : ℕ) → a < 256 → b < 256 → c < 256 → d < 256 → word_bytes (word_of (a ∷ b ∷ c ∷ d ∷ [])) ≡ a ∷ b ∷ c ∷ d ∷ []
word_back a b c d p q r s = four (omega arith) (omega arith) (omega arith) (omega arith)

pub word_set : (x r b : ℕ) → r < 4 → b < 256 → word_bytes (word_of (set (word_bytes x) r b)) ≡ set (word_bytes x) r b
word_set x zero b h l = word_back b (x / 65536 % 256) (x / 256 % 256) (x % 256) l (omega arith) (omega arith) (omega arith)
word_set x (suc zero) b h l = word_back (x / 16777216 % 256) b (x / 256 % 256) (x % 256) (omega arith) l (omega arith) (omega arith)
word_set x (suc (suc zero)) b h l = word_back (x / 16777216 % 256) (x / 65536 % 256) b (x % 256) (omega arith) (omega arith) l (omega arith)
word_set x (suc (suc (suc zero))) b h l = word_back (x / 16777216 % 256) (x / 65536 % 256) (x / 256 % 256) b (omega arith) (omega arith) (omega arith) l
word_set x (suc (suc (suc (suc r)))) b h l = absurd (omega arith)

-- a byte put into the word where it lies
pub byte_put : (t ys : List ℕ) (at b v : ℕ) → at < 4 * length t → b < 256 → ys ≡ word_bytes (get_or t (at / 4) 0) → v ≡ word_of (set ys (at % 4) b) →
    spread (set t (at / 4) v) ≡ set (spread t) at b
byte_put t ys at b v h l e f =
    let z : 4 * (at / 4) + at % 4 ≡ at = omega arith in
    let w : word_bytes v ≡ set (word_bytes (get_or t (at / 4) 0)) (at % 4) b
    = ap word_bytes (f ∙ ap (λ y. word_of (set y (at % 4) b)) e) ∙ word_set (get_or t (at / 4) 0) (at % 4) b (omega arith) l in
    spread-set t (at / 4) (at % 4) v b (omega arith) (omega arith) w ∙ ap (λ j. set (spread t) j b) z

-- the byte that lies in a word
pub byte_got : (t ys : List ℕ) (at : ℕ) → at < 4 * length t → ys ≡ word_bytes (get_or t (at / 4) 0) → get_or ys (at % 4) 0 ≡ get_or (spread t) at 0
byte_got t ys at h e =
    let z : 4 * (at / 4) + at % 4 ≡ at = omega arith in
    ap (λ y. get_or y (at % 4) 0) e ∙ word_got t (at / 4) (at % 4) (omega arith) (omega arith) ∙ ap (λ j. get_or (spread t) j 0) z
