-- The grammar keeps what forms have to keep.
use Rattle.std.proofs.Common.{◌≡◌, ℕ, suc, Bool, true, false, List, length, Err, refl}
use Rattle.nm_base.specs.declared.token.Token.{Token}
use Rattle.nesc_tree.specs.declared.sorts.Sort.{Sort}
use Rattle.nesc_tree.specs.declared.sorts.Sort.TheVariants as s
use Rattle.nesc_tree.specs.declared.contexts.Jumps.{Jumps}
use Rattle.nesc_tree.specs.declared.contexts.Jumps.TheVariants as jumps
use Rattle.nesc_tree.specs.declared.contexts.Site.TheVariants as site
use Rattle.nesc_grammar.specs.Declarations.{braces_of}
use Rattle.nesc_grammar.specs.Statements.{label_of}
use Rattle.nesc_tree.specs.Phrase.{Phrase, Of, begins, fits_one_level}
use Rattle.nesc_tree.specs.Form.{Form, Place, next, nullable, starts, SpellsIn}
use Rattle.nesc_tree.specs.Sorts.{Names, ahead}
use Rattle.nesc_tree.specs.Reading.{Fault, stop, rest_of, read, phrase, nests}
use Rattle.nesc_grammar.specs.Grammar.{expression, admits_cast}
use Rattle.nesc_grammar.specs.Production.{production}
use Rattle.nesc_tree.proofs.Fine.{Fine}
use Rattle.nesc_tree.proofs.Checked.{fine, opens, checked, opened}
use Rattle.nesc_tree.proofs.Moves.{Moves, phrase_moves}
use Rattle.nesc_tree.proofs.Open.{Open, stay, bars, Seed, seed, seed_of}
use Rattle.nesc_tree.proofs.Some.{left_no}
use Rattle.nesc_tree.proofs.Fresh.{fresh}
use Rattle.nesc_tree.proofs.Entered.{leads}
use Rattle.nesc_tree.proofs.Grown.{Grown, phrase_grown}
use Rattle.std.specs.Prelude.{nat_lt}
use Rattle.nesc_tree.proofs.Moved as moved
use Rattle.nesc_tree.proofs.Told as told
use Rattle.nesc_tree.proofs.Some as some
use Rattle.nesc_tree.proofs.Levels as levels
use Rattle.nesc_tree.proofs.Meets as meets
use Rattle.nesc_tree.proofs.Sound as sound

expr_fine : (b : Bool) (least : ℕ) → fine (expression b least) ≡ true
expr_fine true least = refl
expr_fine false least = refl

pub all_fine : (p : Phrase) → Fine (production p)
all_fine (Phrase.expr least) = checked (production (Phrase.expr least)) (expr_fine (admits_cast least) least)
all_fine Phrase.opened = checked (production Phrase.opened) refl
all_fine Phrase.fields = checked (production Phrase.fields) refl
all_fine Phrase.pointers = checked (production Phrase.pointers) refl
all_fine Phrase.type = checked (production Phrase.type) refl
all_fine Phrase.braces = checked (production Phrase.braces) refl
all_fine Phrase.local = checked (production Phrase.local) refl
all_fine (Phrase.stmt jumps.Neither) = checked (production (Phrase.stmt jumps.Neither)) refl
all_fine (Phrase.stmt jumps.Break) = checked (production (Phrase.stmt jumps.Break)) refl
all_fine (Phrase.stmt jumps.BreakAndContinue) = checked (production (Phrase.stmt jumps.BreakAndContinue)) refl
all_fine (Phrase.label jumps.Neither) = checked (production (Phrase.label jumps.Neither)) refl
all_fine (Phrase.label jumps.Break) = checked (production (Phrase.label jumps.Break)) refl
all_fine (Phrase.label jumps.BreakAndContinue) = checked (production (Phrase.label jumps.BreakAndContinue)) refl
all_fine (Phrase.cases jumps.Neither) = checked (production (Phrase.cases jumps.Neither)) refl
all_fine (Phrase.cases jumps.Break) = checked (production (Phrase.cases jumps.Break)) refl
all_fine (Phrase.cases jumps.BreakAndContinue) = checked (production (Phrase.cases jumps.BreakAndContinue)) refl
all_fine (Phrase.decl site.Header) = checked (production (Phrase.decl site.Header)) refl
all_fine (Phrase.decl site.Module) = checked (production (Phrase.decl site.Module)) refl
all_fine (Phrase.decls site.Header) = checked (production (Phrase.decls site.Header)) refl
all_fine (Phrase.decls site.Module) = checked (production (Phrase.decls site.Module)) refl
all_fine Phrase.attribute = checked (production Phrase.attribute) refl
all_fine Phrase.generics = checked (production Phrase.generics) refl
all_fine Phrase.spec = checked (production Phrase.spec) refl
all_fine Phrase.line = checked (production Phrase.line) refl
all_fine Phrase.item = checked (production Phrase.item) refl
all_fine Phrase.interface = checked (production Phrase.interface) refl
all_fine Phrase.component = checked (production Phrase.component) refl

full : (p : Phrase) → nullable (production p) ≡ false
full (Phrase.expr least) = refl
full Phrase.opened = refl
full Phrase.fields = refl
full Phrase.pointers = refl
full Phrase.type = refl
full _ = refl

table : (p : Phrase) (x : Sort) → begins p x ≡ starts (production p) x
table (Phrase.expr least) s.End = refl
table (Phrase.expr least) _ = refl
table Phrase.opened s.End = refl
table Phrase.opened _ = refl
table Phrase.fields s.LBrace = refl
table Phrase.fields _ = refl
table Phrase.pointers s.Star = refl
table Phrase.pointers _ = refl
table Phrase.type s.End = refl
table Phrase.type _ = refl
table Phrase.braces s.End = refl
table Phrase.braces _ = refl
table Phrase.local s.End = refl
table Phrase.local _ = refl
table (Phrase.stmt jumps.Neither) s.End = refl
table (Phrase.stmt jumps.Neither) _ = refl
table (Phrase.stmt jumps.Break) s.End = refl
table (Phrase.stmt jumps.Break) _ = refl
table (Phrase.stmt jumps.BreakAndContinue) s.End = refl
table (Phrase.stmt jumps.BreakAndContinue) _ = refl
table (Phrase.label jumps.Neither) s.End = refl
table (Phrase.label jumps.Neither) _ = refl
table (Phrase.label jumps.Break) s.End = refl
table (Phrase.label jumps.Break) _ = refl
table (Phrase.label jumps.BreakAndContinue) s.End = refl
table (Phrase.label jumps.BreakAndContinue) _ = refl
table (Phrase.cases jumps.Neither) s.End = refl
table (Phrase.cases jumps.Neither) _ = refl
table (Phrase.cases jumps.Break) s.End = refl
table (Phrase.cases jumps.Break) _ = refl
table (Phrase.cases jumps.BreakAndContinue) s.End = refl
table (Phrase.cases jumps.BreakAndContinue) _ = refl
table (Phrase.decl site.Header) s.End = refl
table (Phrase.decl site.Header) _ = refl
table (Phrase.decl site.Module) s.End = refl
table (Phrase.decl site.Module) _ = refl
table (Phrase.decls site.Header) s.End = refl
table (Phrase.decls site.Header) _ = refl
table (Phrase.decls site.Module) s.End = refl
table (Phrase.decls site.Module) _ = refl
table Phrase.attribute s.End = refl
table Phrase.attribute _ = refl
table Phrase.generics s.End = refl
table Phrase.generics _ = refl
table Phrase.spec s.End = refl
table Phrase.spec _ = refl
table Phrase.line s.End = refl
table Phrase.line _ = refl
table Phrase.item s.End = refl
table Phrase.item _ = refl
table Phrase.interface s.End = refl
table Phrase.interface _ = refl
table Phrase.component s.End = refl
table Phrase.component _ = refl

ends : (p : Phrase) → begins p s.End ≡ false
ends (Phrase.expr least) = refl
ends Phrase.opened = refl
ends Phrase.fields = refl
ends Phrase.pointers = refl
ends Phrase.type = refl
ends _ = refl

pub reads_on : (d : ℕ) (k : Phrase) (p : Place) → Moves (begins k (next p)) (length p.rest) (phrase production d k p)
reads_on = phrase_moves production all_fine table

pub reads_spelled : (d : ℕ) (k : Phrase) (p : Place) → sound.Sound (λ a q. SpellsIn production d k p a q) (phrase production d k p)
reads_spelled = sound.phrase_sound production all_fine table

pub reads_beside : (n : ℕ) (ended : Bool) (d e : ℕ) (k : Phrase) (p q r : Place) (a : Of k) → meets.Near n ended p q → SpellsIn production e k q a r → meets.Meets n ended d e a r (phrase production d k p)
reads_beside = meets.phrase_meets production all_fine full table ends

expr_opens : (b : Bool) (least : ℕ) → opens (expression b least) ≡ true
expr_opens true least = refl
expr_opens false least = refl

all_open : (p : Phrase) → Open (production p)
all_open (Phrase.expr least) = opened (production (Phrase.expr least)) (expr_opens (admits_cast least) least)
all_open Phrase.opened = opened (production Phrase.opened) refl
all_open Phrase.fields = opened (production Phrase.fields) refl
all_open Phrase.pointers = opened (production Phrase.pointers) refl
all_open Phrase.type = opened (production Phrase.type) refl
all_open Phrase.braces = opened (production Phrase.braces) refl
all_open Phrase.local = opened (production Phrase.local) refl
all_open (Phrase.stmt jumps.Neither) = opened (production (Phrase.stmt jumps.Neither)) refl
all_open (Phrase.stmt jumps.Break) = opened (production (Phrase.stmt jumps.Break)) refl
all_open (Phrase.stmt jumps.BreakAndContinue) = opened (production (Phrase.stmt jumps.BreakAndContinue)) refl
all_open (Phrase.label jumps.Neither) = opened (production (Phrase.label jumps.Neither)) refl
all_open (Phrase.label jumps.Break) = opened (production (Phrase.label jumps.Break)) refl
all_open (Phrase.label jumps.BreakAndContinue) = opened (production (Phrase.label jumps.BreakAndContinue)) refl
all_open (Phrase.cases jumps.Neither) = opened (production (Phrase.cases jumps.Neither)) refl
all_open (Phrase.cases jumps.Break) = opened (production (Phrase.cases jumps.Break)) refl
all_open (Phrase.cases jumps.BreakAndContinue) = opened (production (Phrase.cases jumps.BreakAndContinue)) refl
all_open (Phrase.decl site.Header) = opened (production (Phrase.decl site.Header)) refl
all_open (Phrase.decl site.Module) = opened (production (Phrase.decl site.Module)) refl
all_open (Phrase.decls site.Header) = opened (production (Phrase.decls site.Header)) refl
all_open (Phrase.decls site.Module) = opened (production (Phrase.decls site.Module)) refl
all_open Phrase.attribute = opened (production Phrase.attribute) refl
all_open Phrase.generics = opened (production Phrase.generics) refl
all_open Phrase.spec = opened (production Phrase.spec) refl
all_open Phrase.line = opened (production Phrase.line) refl
all_open Phrase.item = opened (production Phrase.item) refl
all_open Phrase.interface = opened (production Phrase.interface) refl
all_open Phrase.component = opened (production Phrase.component) refl

expr_stays : (b : Bool) (least : ℕ) (x : Sort) → stay (Phrase.expr least) x ≡ false → bars (expression b least) x ≡ false
expr_stays b least s.Assign h = absurd cc
expr_stays b least s.OpAssign h = absurd cc
expr_stays b least s.Question h = absurd cc
expr_stays b least s.OrOr h = absurd cc
expr_stays b least s.AndAnd h = absurd cc
expr_stays b least s.Bar h = absurd cc
expr_stays b least s.Caret h = absurd cc
expr_stays b least s.Amp h = absurd cc
expr_stays b least s.Equality h = absurd cc
expr_stays b least s.Less h = absurd cc
expr_stays b least s.Greater h = absurd cc
expr_stays b least s.OrEqual h = absurd cc
expr_stays b least s.Shift h = absurd cc
expr_stays b least s.Plus h = absurd cc
expr_stays b least s.Minus h = absurd cc
expr_stays b least s.Star h = absurd cc
expr_stays b least s.Divide h = absurd cc
expr_stays b least s.LBracket h = absurd cc
expr_stays b least s.LParen h = absurd cc
expr_stays b least s.Dot h = absurd cc
expr_stays b least s.Arrow h = absurd cc
expr_stays b least s.Step h = absurd cc
expr_stays true least s.Comma h = rw h refl
expr_stays false least s.Comma h = rw h refl
expr_stays true least _ h = refl
expr_stays false least _ h = refl

stays : (p : Phrase) (x : Sort) → stay p x ≡ false → bars (production p) x ≡ false
stays (Phrase.expr least) x h = expr_stays (admits_cast least) least x h
stays Phrase.opened s.Assign h = absurd cc
stays Phrase.opened s.OpAssign h = absurd cc
stays Phrase.opened s.Question h = absurd cc
stays Phrase.opened s.OrOr h = absurd cc
stays Phrase.opened s.AndAnd h = absurd cc
stays Phrase.opened s.Bar h = absurd cc
stays Phrase.opened s.Caret h = absurd cc
stays Phrase.opened s.Amp h = absurd cc
stays Phrase.opened s.Equality h = absurd cc
stays Phrase.opened s.Less h = absurd cc
stays Phrase.opened s.Greater h = absurd cc
stays Phrase.opened s.OrEqual h = absurd cc
stays Phrase.opened s.Shift h = absurd cc
stays Phrase.opened s.Plus h = absurd cc
stays Phrase.opened s.Minus h = absurd cc
stays Phrase.opened s.Star h = absurd cc
stays Phrase.opened s.Divide h = absurd cc
stays Phrase.opened s.LBracket h = absurd cc
stays Phrase.opened s.LParen h = absurd cc
stays Phrase.opened s.Dot h = absurd cc
stays Phrase.opened s.Arrow h = absurd cc
stays Phrase.opened s.Step h = absurd cc
stays Phrase.opened _ h = refl
stays Phrase.fields s.End h = refl
stays Phrase.fields _ h = refl
stays Phrase.pointers s.Star h = absurd cc
stays Phrase.pointers _ h = refl
stays Phrase.type s.Qualifier h = absurd cc
stays Phrase.type s.CharType h = absurd cc
stays Phrase.type s.Length h = absurd cc
stays Phrase.type s.Int h = absurd cc
stays Phrase.type s.LBrace h = absurd cc
stays Phrase.type _ h = refl
stays Phrase.braces s.End h = refl
stays Phrase.braces _ h = refl
stays Phrase.local s.End h = refl
stays Phrase.local _ h = refl
stays (Phrase.stmt jumps.Neither) s.Else h = absurd cc
stays (Phrase.stmt jumps.Neither) _ h = refl
stays (Phrase.stmt jumps.Break) s.Else h = absurd cc
stays (Phrase.stmt jumps.Break) _ h = refl
stays (Phrase.stmt jumps.BreakAndContinue) s.Else h = absurd cc
stays (Phrase.stmt jumps.BreakAndContinue) _ h = refl
stays (Phrase.label jumps.Neither) s.Else h = absurd cc
stays (Phrase.label jumps.Neither) _ h = refl
stays (Phrase.label jumps.Break) s.Else h = absurd cc
stays (Phrase.label jumps.Break) _ h = refl
stays (Phrase.label jumps.BreakAndContinue) s.Else h = absurd cc
stays (Phrase.label jumps.BreakAndContinue) _ h = refl
stays (Phrase.cases jumps.Neither) s.End h = refl
stays (Phrase.cases jumps.Neither) _ h = refl
stays (Phrase.cases jumps.Break) s.End h = refl
stays (Phrase.cases jumps.Break) _ h = refl
stays (Phrase.cases jumps.BreakAndContinue) s.End h = refl
stays (Phrase.cases jumps.BreakAndContinue) _ h = refl
stays (Phrase.decl site.Header) s.Else h = absurd cc
stays (Phrase.decl site.Header) _ h = refl
stays (Phrase.decl site.Module) s.Else h = absurd cc
stays (Phrase.decl site.Module) _ h = refl
stays (Phrase.decls site.Header) s.End h = refl
stays (Phrase.decls site.Header) _ h = refl
stays (Phrase.decls site.Module) s.End h = refl
stays (Phrase.decls site.Module) _ h = refl
stays Phrase.attribute s.End h = refl
stays Phrase.attribute _ h = refl
stays Phrase.generics s.End h = refl
stays Phrase.generics _ h = refl
stays Phrase.spec s.End h = refl
stays Phrase.spec _ h = refl
stays Phrase.line s.End h = refl
stays Phrase.line _ h = refl
stays Phrase.item s.End h = refl
stays Phrase.item _ h = refl
stays Phrase.interface s.End h = refl
stays Phrase.interface _ h = refl
stays Phrase.component s.End h = refl
stays Phrase.component _ h = refl

shallow : (p : Phrase) → fits_one_level p ≡ true → nests (production p) ≡ false
shallow (Phrase.expr least) h = refl
shallow Phrase.opened h = absurd cc
shallow Phrase.fields h = refl
shallow Phrase.pointers h = refl
shallow Phrase.type h = refl
shallow Phrase.braces h = absurd cc
shallow Phrase.local h = refl
shallow (Phrase.stmt jumps.Neither) h = refl
shallow (Phrase.stmt jumps.Break) h = refl
shallow (Phrase.stmt jumps.BreakAndContinue) h = refl
shallow (Phrase.label jumps.Neither) h = absurd cc
shallow (Phrase.label jumps.Break) h = absurd cc
shallow (Phrase.label jumps.BreakAndContinue) h = absurd cc
shallow (Phrase.cases jumps.Neither) h = refl
shallow (Phrase.cases jumps.Break) h = refl
shallow (Phrase.cases jumps.BreakAndContinue) h = refl
shallow (Phrase.decl site.Header) h = refl
shallow (Phrase.decl site.Module) h = refl
shallow (Phrase.decls site.Header) h = refl
shallow (Phrase.decls site.Module) h = refl
shallow Phrase.attribute h = refl
shallow Phrase.generics h = refl
shallow Phrase.spec h = refl
shallow Phrase.line h = refl
shallow Phrase.item h = refl
shallow Phrase.interface h = refl
shallow Phrase.component h = refl

seeded : (p : Phrase) → fits_one_level p ≡ true → seed false (production p) ≡ Seed.at (seed_of p)
seeded (Phrase.expr least) h = refl
seeded Phrase.opened h = absurd cc
seeded Phrase.fields h = refl
seeded Phrase.pointers h = refl
seeded Phrase.type h = refl
seeded Phrase.braces h = absurd cc
seeded Phrase.local h = refl
seeded (Phrase.stmt jumps.Neither) h = refl
seeded (Phrase.stmt jumps.Break) h = refl
seeded (Phrase.stmt jumps.BreakAndContinue) h = refl
seeded (Phrase.label jumps.Neither) h = absurd cc
seeded (Phrase.label jumps.Break) h = absurd cc
seeded (Phrase.label jumps.BreakAndContinue) h = absurd cc
seeded (Phrase.cases jumps.Neither) h = refl
seeded (Phrase.cases jumps.Break) h = refl
seeded (Phrase.cases jumps.BreakAndContinue) h = refl
seeded (Phrase.decl site.Header) h = refl
seeded (Phrase.decl site.Module) h = refl
seeded (Phrase.decls site.Header) h = refl
seeded (Phrase.decls site.Module) h = refl
seeded Phrase.attribute h = refl
seeded Phrase.generics h = refl
seeded Phrase.spec h = refl
seeded Phrase.line h = refl
seeded Phrase.item h = refl
seeded Phrase.interface h = refl
seeded Phrase.component h = refl

refused : (b : Bool) (ts : List Token) → rest_of (stop b ts) ≡ ts
refused true ts = refl
refused false ts = refl

-- what must nest is not begun where nothing may nest
shut_by : {A : Type 0} (f : Sort → Form A) → ((x : Sort) → nests (f x) ≡ true) → (p : Place) → (e : Fault) × (read 0 (phrase production 0) (Form.by f) p ≡ Err e) × (rest_of e ≡ p.rest)
unfolding read
shut_by f h p = (stop (starts (f (next p)) (next p)) p.rest, rw (h (next p)) refl, refused (starts (f (next p)) (next p)) p.rest)

braces_nest : (x : Sort) → nests (braces_of x) ≡ true
braces_nest s.LBrace = refl
braces_nest _ = refl

labels_nest : (j : Jumps) (x : Sort) → nests (label_of j x) ≡ true
labels_nest j s.Case = refl
labels_nest j s.Default = refl
labels_nest j _ = refl

shut : (k : Phrase) → fits_one_level k ≡ false → (p : Place) → (e : Fault) × (read 0 (phrase production 0) (production k) p ≡ Err e) × (rest_of e ≡ p.rest)
unfolding read phrase
shut (Phrase.expr least) h p = absurd cc
shut Phrase.braces h p = shut_by braces_of braces_nest p
shut (Phrase.label j) h p = shut_by (label_of j) (labels_nest j) p
shut Phrase.local h p = absurd cc
shut (Phrase.stmt jumps.Neither) h p = absurd cc
shut (Phrase.stmt jumps.Break) h p = absurd cc
shut (Phrase.stmt jumps.BreakAndContinue) h p = absurd cc
shut (Phrase.cases jumps.Neither) h p = absurd cc
shut (Phrase.cases jumps.Break) h p = absurd cc
shut (Phrase.cases jumps.BreakAndContinue) h p = absurd cc
shut (Phrase.decl site.Header) h p = absurd cc
shut (Phrase.decl site.Module) h p = absurd cc
shut (Phrase.decls site.Header) h p = absurd cc
shut (Phrase.decls site.Module) h p = absurd cc
shut Phrase.attribute h p = absurd cc
shut Phrase.generics h p = absurd cc
shut Phrase.spec h p = absurd cc
shut Phrase.line h p = absurd cc
shut Phrase.item h p = absurd cc
shut Phrase.interface h p = absurd cc
shut Phrase.component h p = absurd cc
shut Phrase.fields h p = absurd cc
shut Phrase.pointers h p = absurd cc
shut Phrase.type h p = absurd cc
shut Phrase.opened h p = (stop (begins (Phrase.expr 0) (next p)) p.rest, refl, refused (begins (Phrase.expr 0) (next p)) p.rest)

pub stops_told : (d : ℕ) (k : Phrase) (p : Place) → told.Told (SpellsIn production d k) (stay k) p (phrase production d k p)
stops_told = levels.phrase_told production all_fine all_open full table ends stays shallow seeded shut fresh

pub may_stand : (d : ℕ) (k : Phrase) (p q : Place) (a : Of k) → SpellsIn production d k p a q → (follow : List Token) → moved.Free (stay k) q follow → moved.Moved (SpellsIn production d k) false p q a follow
may_stand = levels.phrase_moved production all_fine all_open full table ends stays shallow seeded shut fresh

pub has_text : (d : ℕ) (k : Phrase) → fits_one_level k ≡ true → (ns : Names) (follow : some.Follow (Of k)) → ((a : Of k) (ms : Names) → stay k (ahead ms (follow a ms)) ≡ false) → (t : some.Text (SpellsIn production (suc d) k) ns follow) × (ahead ns t.us ≡ seed_of k)
has_text = levels.phrase_some production all_fine all_open full table ends stays shallow seeded shut fresh

-- a phrase is of a higher rank than those that a text of it may begin with
rank : Phrase → ℕ
rank (Phrase.expr least) = 0
rank Phrase.opened = 1
rank Phrase.fields = 0
rank Phrase.pointers = 0
rank Phrase.type = 0
rank (Phrase.stmt j) = 1
rank (Phrase.decls m) = 1
rank Phrase.interface = 1
rank Phrase.component = 1
rank _ = 0

top : (k : Phrase) → nat_lt (rank k) 2 ≡ true
unfolding rank
top (Phrase.expr least) = refl
top Phrase.opened = refl
top Phrase.fields = refl
top Phrase.pointers = refl
top Phrase.type = refl
top _ = refl

lower : (k : Phrase) → leads rank (rank k) (production k) ≡ true
unfolding rank
lower (Phrase.expr least) = refl
lower Phrase.opened = refl
lower Phrase.fields = refl
lower Phrase.pointers = refl
lower Phrase.type = refl
lower Phrase.braces = refl
lower Phrase.local = refl
lower (Phrase.stmt jumps.Neither) = refl
lower (Phrase.stmt jumps.Break) = refl
lower (Phrase.stmt jumps.BreakAndContinue) = refl
lower (Phrase.label jumps.Neither) = refl
lower (Phrase.label jumps.Break) = refl
lower (Phrase.label jumps.BreakAndContinue) = refl
lower (Phrase.cases jumps.Neither) = refl
lower (Phrase.cases jumps.Break) = refl
lower (Phrase.cases jumps.BreakAndContinue) = refl
lower (Phrase.decl site.Header) = refl
lower (Phrase.decl site.Module) = refl
lower (Phrase.decls site.Header) = refl
lower (Phrase.decls site.Module) = refl
lower Phrase.attribute = refl
lower Phrase.generics = refl
lower Phrase.spec = refl
lower Phrase.line = refl
lower Phrase.item = refl
lower Phrase.interface = refl
lower Phrase.component = refl

pub grows : (d : ℕ) (k : Phrase) (p : Place) → Grown d (phrase production d k p) (λ e. phrase production e k p)
grows = phrase_grown production all_fine full table rank 2 top lower
