-- A token of each sort, whatever type names are in force.
use Rattle.std.proofs.Common.{◌≡◌, ℕ, suc, ◌+◌, ◌<◌, Bool, true, false, List, [], ◌∷◌, length, refl, ap, arith}
use Rattle.std.specs.Prelude.{codes, bytes_eq}
use Rattle.std.proofs.Math.ListN.{replicate}
use Rattle.std.proofs.lemmas.List.{length-replicate}
use Rattle.std.proofs.lemmas.Slice.Eq.{bytes_eq-Decides}
use Rattle.nm_base.specs.declared.token.Token.{Token}
use Rattle.nm_base.specs.declared.token.Kind.{Kind}
use Rattle.nm_base.specs.declared.token.Kind.TheVariants as k
use Rattle.nesc_tree.specs.declared.sorts.Sort.{Sort}
use Rattle.nesc_tree.specs.declared.sorts.Sort.TheVariants as s
use Rattle.nesc_tree.specs.Sorts.{Names, is_type, sort, sign, keyword}
use Rattle.nesc_tree.proofs.Open.{made}

abbrev stand : Kind → List ℕ → Token
stand kind text = record { kind = kind; text = text; pos = record { file = 0; line = 1; col = 1 }; first = false }

size : Names → ℕ
size [] = 0
size (n ∷ ns) = length n.0 + size ns

unequal : (xs ys : List ℕ) → length ys < length xs → bytes_eq xs ys ≡ false
unequal xs ys l =
    let by : (b : Bool) → bytes_eq xs ys ≡ b → b ≡ false = elim [ true ↦ λ e. (let z = ap (λ (u : List ℕ). length u) ((bytes_eq-Decides xs ys).0 e) in absurd (omega arith)) | false ↦ λ e. refl ] in
    by (bytes_eq xs ys) refl

none_of : (xs : List ℕ) (ns : Names) → size ns < length xs → is_type ns xs ≡ false
unfolding size
none_of xs [] m = refl
none_of xs (n ∷ ns) m = rw (unequal xs n.0 (omega arith)) (none_of xs ns (omega arith))

-- longer than every name, and with a letter that no keyword begins with
new_word : Names → List ℕ
new_word ns = replicate (suc (size ns)) 122

is_word : (ns : Names) → sort ns (stand k.Word (new_word ns)) ≡ s.Word
unfolding sort keyword new_word
is_word ns =
    let l : length (new_word ns) ≡ suc (size ns) = length-replicate (suc (size ns)) 122 in
    rw (none_of (new_word ns) ns (omega arith)) refl

pub fresh : (x : Sort) (ns : Names) → made x ≡ true → (t : Token) × (sort ns t ≡ x)
unfolding sort sign keyword
fresh s.End ns h = absurd cc
fresh s.TypeName ns h = absurd cc
fresh s.Word ns h = (stand k.Word (new_word ns), is_word ns)
fresh s.Number ns h = (stand k.Number (codes "0"), refl)
fresh s.Char ns h = (stand k.Char (codes "0"), refl)
fresh s.Text ns h = (stand k.Text (codes "0"), refl)
fresh s.LParen ns h = (stand k.Sign (codes "("), refl)
fresh s.RParen ns h = (stand k.Sign (codes ")"), refl)
fresh s.LBracket ns h = (stand k.Sign (codes "["), refl)
fresh s.RBracket ns h = (stand k.Sign (codes "]"), refl)
fresh s.LBrace ns h = (stand k.Sign (codes "{"), refl)
fresh s.RBrace ns h = (stand k.Sign (codes "}"), refl)
fresh s.Semi ns h = (stand k.Sign (codes ";"), refl)
fresh s.Comma ns h = (stand k.Sign (codes ","), refl)
fresh s.Dot ns h = (stand k.Sign (codes "."), refl)
fresh s.Arrow ns h = (stand k.Sign (codes "->"), refl)
fresh s.BackArrow ns h = (stand k.Sign (codes "<-"), refl)
fresh s.At ns h = (stand k.Sign (codes "@"), refl)
fresh s.Question ns h = (stand k.Sign (codes "?"), refl)
fresh s.Colon ns h = (stand k.Sign (codes ":"), refl)
fresh s.Assign ns h = (stand k.Sign (codes "="), refl)
fresh s.OpAssign ns h = (stand k.Sign (codes "+="), refl)
fresh s.OrOr ns h = (stand k.Sign (codes "||"), refl)
fresh s.AndAnd ns h = (stand k.Sign (codes "&&"), refl)
fresh s.Bar ns h = (stand k.Sign (codes "|"), refl)
fresh s.Caret ns h = (stand k.Sign (codes "^"), refl)
fresh s.Amp ns h = (stand k.Sign (codes "&"), refl)
fresh s.Equality ns h = (stand k.Sign (codes "=="), refl)
fresh s.Less ns h = (stand k.Sign (codes "<"), refl)
fresh s.Greater ns h = (stand k.Sign (codes ">"), refl)
fresh s.OrEqual ns h = (stand k.Sign (codes "<="), refl)
fresh s.Shift ns h = (stand k.Sign (codes "<<"), refl)
fresh s.Plus ns h = (stand k.Sign (codes "+"), refl)
fresh s.Minus ns h = (stand k.Sign (codes "-"), refl)
fresh s.Star ns h = (stand k.Sign (codes "*"), refl)
fresh s.Divide ns h = (stand k.Sign (codes "/"), refl)
fresh s.Complement ns h = (stand k.Sign (codes "~"), refl)
fresh s.Step ns h = (stand k.Sign (codes "++"), refl)
fresh s.Qualifier ns h = (stand k.Word (codes "const"), refl)
fresh s.Void ns h = (stand k.Word (codes "void"), refl)
fresh s.Signedness ns h = (stand k.Word (codes "signed"), refl)
fresh s.CharType ns h = (stand k.Word (codes "char"), refl)
fresh s.Length ns h = (stand k.Word (codes "short"), refl)
fresh s.Int ns h = (stand k.Word (codes "int"), refl)
fresh s.Struct ns h = (stand k.Word (codes "struct"), refl)
fresh s.Enum ns h = (stand k.Word (codes "enum"), refl)
fresh s.Typedef ns h = (stand k.Word (codes "typedef"), refl)
fresh s.SizeOf ns h = (stand k.Word (codes "sizeof"), refl)
fresh s.Null ns h = (stand k.Word (codes "NULL"), refl)
fresh s.Unique ns h = (stand k.Word (codes "unique"), refl)
fresh s.PortRead ns h = (stand k.Word (codes "port_read"), refl)
fresh s.PortWrite ns h = (stand k.Word (codes "port_write"), refl)
fresh s.Post ns h = (stand k.Word (codes "post"), refl)
fresh s.Call ns h = (stand k.Word (codes "call"), refl)
fresh s.Atomic ns h = (stand k.Word (codes "atomic"), refl)
fresh s.If ns h = (stand k.Word (codes "if"), refl)
fresh s.Else ns h = (stand k.Word (codes "else"), refl)
fresh s.While ns h = (stand k.Word (codes "while"), refl)
fresh s.Do ns h = (stand k.Word (codes "do"), refl)
fresh s.For ns h = (stand k.Word (codes "for"), refl)
fresh s.Switch ns h = (stand k.Word (codes "switch"), refl)
fresh s.Case ns h = (stand k.Word (codes "case"), refl)
fresh s.Default ns h = (stand k.Word (codes "default"), refl)
fresh s.Break ns h = (stand k.Word (codes "break"), refl)
fresh s.Continue ns h = (stand k.Word (codes "continue"), refl)
fresh s.Return ns h = (stand k.Word (codes "return"), refl)
fresh s.Norace ns h = (stand k.Word (codes "norace"), refl)
fresh s.Static ns h = (stand k.Word (codes "static"), refl)
fresh s.Inline ns h = (stand k.Word (codes "inline"), refl)
fresh s.Async ns h = (stand k.Word (codes "async"), refl)
fresh s.Task ns h = (stand k.Word (codes "task"), refl)
fresh s.Item ns h = (stand k.Word (codes "command"), refl)
fresh s.Interface ns h = (stand k.Word (codes "interface"), refl)
fresh s.Generic ns h = (stand k.Word (codes "generic"), refl)
fresh s.Module ns h = (stand k.Word (codes "module"), refl)
fresh s.Configuration ns h = (stand k.Word (codes "configuration"), refl)
fresh s.Implementation ns h = (stand k.Word (codes "implementation"), refl)
fresh s.Components ns h = (stand k.Word (codes "components"), refl)
fresh s.Specify ns h = (stand k.Word (codes "provides"), refl)
fresh s.As ns h = (stand k.Word (codes "as"), refl)
fresh s.New ns h = (stand k.Word (codes "new"), refl)
fresh s.Other ns h = (stand k.Word (codes "goto"), refl)
