-- A word in hexadecimal digits.
use Rattle.std.proofs.Common.{◌≡◌, ℕ, zero, suc, ◌/◌, ◌%◌, ◌<◌, ◌*◌, true, false, List, [], ◌∷◌, length, get_or, arith, refl, ap, ◌∙◌}
use Rattle.std.specs.Char.{digit_char}
use Rattle.std.specs.Prelude.{OnOk, IsOk}
use Rattle.std.specs.declared.result.Result.{Result}
use Rattle.std.specs.declared.result.Result.TheVariants.{Ok, Err}
use Rattle.hex.specs.Hex.{encode_lower, encode_with, lower_digits}
use Rattle.mote_text.specs.Hex.{hex_word}

digit : (d : ℕ) → d < 16 → get_or lower_digits d 0 ≡ digit_char d
digit zero h = refl
digit (suc zero) h = refl
digit (suc (suc zero)) h = refl
digit (suc (suc (suc zero))) h = refl
digit (suc (suc (suc (suc zero)))) h = refl
digit (suc (suc (suc (suc (suc zero))))) h = refl
digit (suc (suc (suc (suc (suc (suc zero)))))) h = refl
digit (suc (suc (suc (suc (suc (suc (suc zero))))))) h = refl
digit (suc (suc (suc (suc (suc (suc (suc (suc zero)))))))) h = refl
digit (suc (suc (suc (suc (suc (suc (suc (suc (suc zero))))))))) h = refl
digit (suc (suc (suc (suc (suc (suc (suc (suc (suc (suc zero)))))))))) h = refl
digit (suc (suc (suc (suc (suc (suc (suc (suc (suc (suc (suc zero))))))))))) h = refl
digit (suc (suc (suc (suc (suc (suc (suc (suc (suc (suc (suc (suc zero)))))))))))) h = refl
digit (suc (suc (suc (suc (suc (suc (suc (suc (suc (suc (suc (suc (suc zero))))))))))))) h = refl
digit (suc (suc (suc (suc (suc (suc (suc (suc (suc (suc (suc (suc (suc (suc zero)))))))))))))) h = refl
digit (suc (suc (suc (suc (suc (suc (suc (suc (suc (suc (suc (suc (suc (suc (suc zero))))))))))))))) h = refl
digit (suc (suc (suc (suc (suc (suc (suc (suc (suc (suc (suc (suc (suc (suc (suc (suc d)))))))))))))))) h = absurd (omega arith)

pub encodes : (w : ℕ) → w < 0x10000 → encode_lower (w / 256 ∷ w % 256 ∷ []) ≡ hex_word w
unfolding encode_with
encodes w h =
    let a : w / 256 / 16 ≡ w / 0x1000 = omega arith in
    let b : w % 256 / 16 ≡ w / 0x10 % 16 = omega arith in
    let c : w % 256 % 16 ≡ w % 16 = omega arith in
    let one = digit (w / 256 / 16) (omega arith) ∙ ap digit_char a in
    let two = digit (w / 256 % 16) (omega arith) in
    let three = digit (w % 256 / 16) (omega arith) ∙ ap digit_char b in
    let four = digit (w % 256 % 16) (omega arith) ∙ ap digit_char c in
    ap (λ x. x ∷ get_or lower_digits (w / 256 % 16) 0 ∷ get_or lower_digits (w % 256 / 16) 0 ∷ get_or lower_digits (w % 256 % 16) 0 ∷ []) one
    ∙ ap (λ x. digit_char (w / 0x1000) ∷ x ∷ get_or lower_digits (w % 256 / 16) 0 ∷ get_or lower_digits (w % 256 % 16) 0 ∷ []) two
    ∙ ap (λ x. digit_char (w / 0x1000) ∷ digit_char (w / 0x100 % 16) ∷ x ∷ get_or lower_digits (w % 256 % 16) 0 ∷ []) three
    ∙ ap (λ x. digit_char (w / 0x1000) ∷ digit_char (w / 0x100 % 16) ∷ digit_char (w / 0x10 % 16) ∷ x ∷ []) four

-- what an encoder that has room has written
pub digits_of : {A E : Type 0} (r : Result A E) (w : ℕ) (bytes out : List ℕ) → w < 0x10000 → bytes ≡ w / 256 % 256 ∷ w % 256 ∷ [] → (4 ≡ 2 * length bytes → IsOk r) → OnOk r (out ≡ encode_lower bytes) → out ≡ hex_word w
digits_of (Ok x) w bytes out h is room written =
    let high : w / 256 % 256 ≡ w / 256 = omega arith in
    written ∙ ap encode_lower is ∙ ap (λ x. encode_lower (x ∷ w % 256 ∷ [])) high ∙ encodes w h
digits_of (Err e) w bytes out h is room written = let l = ap length is in absurd (apart (room (omega arith)))
  where
    apart : false ≡ true → ⊥
    apart k = cc
