-- What putting a line's text uses.
-- Assumes nothing.
use Prim.Native.Nat.{ℕ, suc, ◌+◌, ◌/◌, ◌%◌, ◌≤◌, ◌<◌}
use native.Mathlib.Omega.{arith}
use mathlib.Core.List.{List, [], ◌∷◌, ◌++◌}
use mathlib.Core.Path.{◌≡◌, refl, sym, ap, ◌∙◌}
use lib.ListN.{length, set, length-append}
use Rattle.seven_bit.specs.Parts.{put}
use Rattle.seven_bit.proofs.PartLaws.{put_one, put_put}
use Rattle.pe_tape.specs.Number.{decimal}
use Rattle.pe_tape.specs.Line.{Shown, marked, whole, shown_text, line_text, end_text}
use Rattle.pe_tape.specs.declared.error.TapeError.{TapeError}
use Rattle.pe_tape.specs.Errors.{tape_number, tape_refused}
use Rattle.pe_tape.proofs.NumberLaws.{decimal_one, decimal_more, decimal_length}

-- a byte behind a text
put_behind : (out : List ℕ) (at : ℕ) (text : List ℕ) (p b : ℕ) → p ≡ at + length text → set (put out at text) p b ≡ put out at (text ++ (b ∷ []))
put_behind out at text p b e = put_one (put out at text) p b ∙ put_put out at text (b ∷ []) p e

-- a byte in front of a text
pub put_front_byte : (out : List ℕ) (at b : ℕ) (text : List ℕ) (p : ℕ) → p ≡ at + 1 → put (set out at b) p text ≡ put out at (b ∷ text)
put_front_byte out at b text p e = ap (λ (o : List ℕ). put o p text) (put_one out at b) ∙ put_put out at (b ∷ []) text p e

-- one digit
one_digit : (n : ℕ) → n < 10 → length (decimal n) ≡ 1
one_digit n h = ap length (decimal_one n h)

-- one digit more than a tenth has
more_digits : (n : ℕ) → 10 ≤ n → length (decimal n) ≡ length (decimal (n / 10)) + 1
more_digits n h = ap length (decimal_more n h) ∙ length-append (decimal (n / 10)) _

-- twenty digits hold a number of 64 bits, so that a tenth of it has fewer
pub tenth_short : (n : ℕ) → n < 18446744073709551616 → 10 ≤ n → length (decimal (n / 10)) < 20
tenth_short n h t =
    let most : length (decimal n) ≤ 20 = decimal_length 19 n (omega arith) in
    let e : length (decimal n) ≡ length (decimal (n / 10)) + 1 = more_digits n t in
    omega (arith, most, e)

-- a number of one digit is stored, and one of more
pub digit_put : (out : List ℕ) (at n : ℕ) → n < 10 → (at + 1 ≡ at + length (decimal n)) × (set out at (48 + n) ≡ put out at (decimal n))
digit_put out at n h =
    let e : length (decimal n) ≡ 1 = one_digit n h in
    (omega (arith, e), put_one out at (48 + n) ∙ ap (put out at) (sym (decimal_one n h)))

pub last_digit_put : (out after : List ℕ) (at n last : ℕ) → 10 ≤ n → last ≡ at + length (decimal (n / 10)) → after ≡ put out at (decimal (n / 10))
    → (last + 1 ≡ at + length (decimal n)) × (set after last (48 + n % 10) ≡ put out at (decimal n))
last_digit_put out after at n last h e p =
    let l : length (decimal n) ≡ length (decimal (n / 10)) + 1 = more_digits n h in (
      omega (arith, l, e),
      ap (λ (o : List ℕ). set o last (48 + n % 10)) p ∙ put_behind out at (decimal (n / 10)) last (48 + n % 10) e ∙ ap (put out at) (sym (decimal_more n h)),
    )

-- two bytes in front of a text
two_front : (out : List ℕ) (at a b : ℕ) (text : List ℕ) → put (set (set out at a) (at + 1) b) (at + 2) text ≡ put out at (a ∷ b ∷ text)
two_front out at a b text =
    put_front_byte (set out at a) (at + 1) b text (at + 2) (omega arith) ∙ put_front_byte out at a (b ∷ text) (at + 1) refl

-- a letter and a number
pub marked_length : (n : ℕ) → length (shown_text (marked n)) ≡ 1 + length (decimal n)
unfolding shown_text
marked_length n = omega arith

pub marked_put : (out after : List ℕ) (at n : ℕ) → after ≡ put (set out at 114) (at + 1) (decimal n) → after ≡ put out at (shown_text (marked n))
unfolding shown_text
marked_put out after at n e = e ∙ put_front_byte out at 114 (decimal n) (at + 1) refl

-- a letter and two numbers
pub whole_length : (h b : ℕ) → length (shown_text (whole h b)) ≡ 3 + length (decimal h) + length (decimal b)
unfolding shown_text
whole_length h b =
    let e : length (decimal h ++ (32 ∷ decimal b)) ≡ length (decimal h) + suc (length (decimal b)) = length-append (decimal h) (32 ∷ decimal b) in
    omega (arith, e)

pub whole_put : (out middle after : List ℕ) (at h b p : ℕ) → middle ≡ put (set (set out at 119) (at + 1) 32) (at + 2) (decimal h)
    → p ≡ at + 2 + length (decimal h) → after ≡ put (set middle p 32) (p + 1) (decimal b) → after ≡ put out at (shown_text (whole h b))
unfolding shown_text
whole_put out middle after at h b p e f g =
    g ∙ put_front_byte middle p 32 (decimal b) (p + 1) refl
    ∙ ap (λ (o : List ℕ). put o p (32 ∷ decimal b)) e
    ∙ put_put (set (set out at 119) (at + 1) 32) (at + 2) (decimal h) (32 ∷ decimal b) p f
    ∙ two_front out at 119 32 (decimal h ++ (32 ∷ decimal b))

-- a line: its command's digit, what is shown, the line's end
pub line_length : (kind : ℕ) (s : Shown) → kind < 10 → length (line_text kind s) ≡ 3 + length (shown_text s)
unfolding line_text
line_length kind s h =
    let e : length (shown_text s ++ (10 ∷ [])) ≡ length (shown_text s) + 1 = length-append (shown_text s) (10 ∷ []) in
    ap (λ (d : List ℕ). length (d ++ (32 ∷ (shown_text s ++ (10 ∷ []))))) (decimal_one kind h) ∙ omega (arith, e)

pub line_put : (out middle : List ℕ) (at kind end : ℕ) (s : Shown) → kind < 10 → middle ≡ put (set (set out at (48 + kind)) (at + 1) 32) (at + 2) (shown_text s)
    → end ≡ at + 2 + length (shown_text s) → set middle end 10 ≡ put out at (line_text kind s)
unfolding line_text
line_put out middle at kind end s h e f =
    ap (λ (o : List ℕ). set o end 10) e
    ∙ put_behind (set (set out at (48 + kind)) (at + 1) 32) (at + 2) (shown_text s) end 10 f
    ∙ two_front out at (48 + kind) 32 (shown_text s ++ (10 ∷ []))
    ∙ ap (λ (d : List ℕ). put out at (d ++ (32 ∷ (shown_text s ++ (10 ∷ []))))) (sym (decimal_one kind h))

-- the last line: a refusal's number, and the line's end
pub last_put : (e : TapeError) (out middle : List ℕ) (n end : ℕ) → n ≡ tape_number e → middle ≡ put out 0 (shown_text (marked n))
    → end ≡ 0 + length (shown_text (marked n))
    → (set middle end 10 ≡ put out 0 (end_text (tape_refused e))) × (end + 1 ≡ length (end_text (tape_refused e)))
unfolding end_text
last_put e out middle n end n= m= e= =
    let text : shown_text (marked n) ++ (10 ∷ []) ≡ shown_text (marked (tape_number e)) ++ (10 ∷ []) =
    ap (λ (k : ℕ). shown_text (marked k) ++ (10 ∷ [])) n= in
    let long : length (shown_text (marked n) ++ (10 ∷ [])) ≡ length (shown_text (marked n)) + 1 = length-append (shown_text (marked n)) (10 ∷ []) in
    let all : length (shown_text (marked n) ++ (10 ∷ [])) ≡ length (shown_text (marked (tape_number e)) ++ (10 ∷ [])) = ap length text in (
      ap (λ (o : List ℕ). set o end 10) m= ∙ put_behind out 0 (shown_text (marked n)) end 10 e= ∙ ap (put out 0) text,
      omega (arith, long, all, e=),
    )
