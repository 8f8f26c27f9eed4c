-- A range of a list replaced.
use Rattle.std.proofs.Common.{◌≡◌, ℕ, ◌+◌, ◌-◌, ◌<◌, ◌≤◌, Bool, List, [], ◌∷◌, ◌++◌, length, get_or, take, drop, set, sym, ap, ◌∙◌, ⊎_elim, append_assoc, arith}
use Rattle.std.proofs.lemmas.Bool.{cases_lt}
use Rattle.std.proofs.lemmas.List.{length-take-le, take_more, set-append_right, length-drop, length-append, take_at, drop_more, take-append-drop, take_all, drop-drop, drop_at, take-take, drop-append-le, get_or-drop}
use Rattle.writer.specs.Meaning.{replaced, Sink}

-- one more byte laid over a table
pub put_more : (t bs : List ℕ) (at i : ℕ) → i < length bs → at + length bs ≤ length t →
    set (replaced t at (take i bs)) (at + i) (get_or bs i 0) ≡ replaced t at (take (i + 1) bs)
put_more t bs at i h f =
    let b : length (take i bs) ≡ i = length-take-le i bs (omega arith) in
    let b1 : length (take (i + 1) bs) ≡ i + 1 = length-take-le (i + 1) bs (omega arith) in
    let a : length (take at t) ≡ at = length-take-le at t (omega arith) in
    let c : length (drop (at + i) t) ≡ length t - (at + i) = length-drop (at + i) t in
    let e1 : set (take at t ++ (take i bs ++ drop (at + length (take i bs)) t)) (at + i) (get_or bs i 0)
    ≡ take at t ++ set (take i bs ++ drop (at + length (take i bs)) t) (at + i - at) (get_or bs i 0)
    = set-append_right (take at t) (take i bs ++ drop (at + length (take i bs)) t) at (at + i) (get_or bs i 0) a (omega arith) in
    let k : at + i - at ≡ i = omega arith in
    let e2 : set (take i bs ++ drop (at + i) t) i (get_or bs i 0) ≡ take i bs ++ set (drop (at + i) t) (i - i) (get_or bs i 0)
    = set-append_right (take i bs) (drop (at + i) t) i i (get_or bs i 0) b (omega arith) in
    let z : i - i ≡ 0 = omega arith in
    let e3 : set (drop (at + i) t) 0 (get_or bs i 0) ≡ get_or bs i 0 ∷ drop (at + i + 1) t
    = ap (λ l. set l 0 (get_or bs i 0)) (drop_more t (at + i) 0 (omega arith)) in
    let e4 = take_more bs i 0 h in
    let e5 : (take i bs ++ (get_or bs i 0 ∷ [])) ++ drop (at + i + 1) t ≡ take i bs ++ (get_or bs i 0 ∷ drop (at + i + 1) t)
    = append_assoc (take i bs) (get_or bs i 0 ∷ []) (drop (at + i + 1) t) in
    let e6 : at + i + 1 ≡ at + (i + 1) = omega arith in
    cc

-- all laid over a table, in the terms of the front: the length grows by the bytes
pub put_front : (t bs : List ℕ) (at n : ℕ) → n ≡ length bs → at ≤ length t → take (at + n) (replaced t at (take n bs)) ≡ take at t ++ bs
put_front t bs at n e f =
    let w : take n bs ≡ bs = take_all n bs (omega arith) in
    let a : length (take at t) ≡ at = length-take-le at t f in
    let l : length (take at t ++ bs) ≡ at + n = length-append (take at t) bs ∙ omega (arith, a, e) in
    let s : take at t ++ (bs ++ drop (at + length bs) t) ≡ (take at t ++ bs) ++ drop (at + length bs) t = sym (append_assoc (take at t) bs (drop (at + length bs) t)) in
    let g = take_at (take at t ++ bs) (drop (at + length bs) t) (at + n) l in
    cc

pub put-length : (t bs : List ℕ) (at : ℕ) → at + length bs ≤ length t → length (replaced t at bs) ≡ length t
put-length t bs at f =
    let a : length (take at t) ≡ at = length-take-le at t (omega arith) in
    let d = length-drop (at + length bs) t in
    simp length-append (omega arith)

-- what lies past the bytes laid over a table
pub put_rest : (t bs : List ℕ) (at m : ℕ) → at + length bs ≤ m → at + length bs ≤ length t → drop m (replaced t at bs) ≡ drop m t
put_rest t bs at m f g =
    let a : length (take at t) ≡ at = length-take-le at t (omega arith) in
    let l : length (take at t ++ bs) ≡ at + length bs = length-append (take at t) bs ∙ omega (arith, a) in
    let k : at + length bs + (m - (at + length bs)) ≡ m = omega arith in
    let s : take at t ++ (bs ++ drop (at + length bs) t) ≡ (take at t ++ bs) ++ drop (at + length bs) t = sym (append_assoc (take at t) bs (drop (at + length bs) t)) in
    let e = drop_at (take at t ++ bs) (drop (at + length bs) t) (at + length bs) l in
    let d1 = drop-drop (m - (at + length bs)) (at + length bs) ((take at t ++ bs) ++ drop (at + length bs) t) in
    let d2 = drop-drop (m - (at + length bs)) (at + length bs) t in
    cc

-- bytes laid over a table within its front
pub put_inside : (t bs : List ℕ) (at n : ℕ) → at + length bs ≤ n → n ≤ length t → take n (replaced t at bs) ≡ replaced (take n t) at bs
put_inside t bs at n f g =
    let a : length (take at t) ≡ at = length-take-le at t (omega arith) in
    let j : length (take n t) ≡ n = length-take-le n t g in
    let u : length (replaced (take n t) at bs) ≡ n = put-length (take n t) bs at (omega arith) ∙ j in
    let w : take at (take n t) ≡ take at t = take-take at n t (omega arith) in
    let h : take n t ++ drop n t ≡ t = take-append-drop n t in
    let v : drop (at + length bs) (take n t ++ drop n t) ≡ drop (at + length bs) (take n t) ++ drop n t
    = drop-append-le (at + length bs) (take n t) (drop n t) (omega arith) in
    let x : replaced t at bs ≡ replaced (take n t) at bs ++ drop n t
    = rw (append_assoc, append_assoc) (cc) in
    rw x (take_at (replaced (take n t) at bs) (drop n t) n u)

pub sink_same : {a b : List ℕ} {m n : ℕ} {x y : Bool} → a ≡ b → m ≡ n → x ≡ y →
    ◌≡◌ {A = Sink} (record { content = a; capacity = m; big = x }) (record { content = b; capacity = n; big = y })
sink_same p q r i = record { content = p i; capacity = q i; big = r i }

-- what lies at a place past the bytes laid over a table
pub put_past : (t bs : List ℕ) (at k : ℕ) → at + length bs ≤ k → at + length bs ≤ length t → get_or (replaced t at bs) k 0 ≡ get_or t k 0
put_past t bs at k f g =
    let z : k + 0 ≡ k = omega arith in
    sym (ap (λ j. get_or (replaced t at bs) j 0) z) ∙ sym (get_or-drop k (replaced t at bs) 0 0) ∙ ap (λ l. get_or l 0 0) (put_rest t bs at k f g) ∙ get_or-drop k t 0 0 ∙ ap (λ j. get_or t j 0) z

pub take_own : (m : ℕ) (t : List ℕ) → take (length (take m t)) t ≡ take m t
take_own m t =
    ⊎_elim (λ h. ap (λ j. take j t) (length-take-le m t (omega arith)))
    (λ h. let e : take m t ≡ t = take_all m t h in take_all (length (take m t)) t (omega (arith, ap length e)) ∙ sym e)
    (cases_lt m (length t))
