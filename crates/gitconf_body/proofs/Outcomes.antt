-- What is said of both outcomes of a call, or of one.
use Rattle.std.proofs.Common.{Result, Ok, Err, inl, inr}
use Rattle.std.specs.Prelude.{◌⊎◌, IfOk, OnOk, OnErr}

pub on_ok : {T E : Type 0} {P Q : Type 0} (r : Result T E) → (P → Q) → OnOk r P → OnOk r Q
on_ok (Ok t) f p = f p
on_ok (Err e) f p = p

pub on_err : {T E : Type 0} {P Q : Type 0} (r : Result T E) → (P → Q) → OnErr r P → OnErr r Q
on_err (Ok t) f p = p
on_err (Err e) f p = f p

pub either_way : {T E : Type 0} {P Q : Type 0} (r : Result T E) → OnOk r P → OnErr r Q → P ⊎ Q
either_way (Ok t) p q = inl p
either_way (Err e) p q = inr q

pub if_ok : {T E : Type 0} {P Q : T → Type 0} (r : Result T E) → ((t : T) → P t → Q t) → IfOk r P → IfOk r Q
if_ok (Ok t) f p = f t p
if_ok (Err e) f p = p

pub if_err_at_all : {T E : Type 0} {P : Type 0} (r : Result T E) → P → OnErr r P
if_err_at_all (Ok t) p = tt
if_err_at_all (Err e) p = p

pub ok_three : {T E : Type 0} {P Q R S : Type 0} (r : Result T E) → (P → Q → R → S) → OnOk r P → OnOk r Q → OnOk r R → OnOk r S
ok_three (Ok t) f p q s = f p q s
ok_three (Err e) f p q s = p
