-- Two messages put into a tray of any mail, and then one taken out of it.
use Rattle.std.specs.Prelude.{ℕ, List, Err, Result}
use Rattle.mail.specs.declared.fault.MailFault.{MailFault}
use Rattle.mail.specs.declared.message.Message.{Message}
use Rattle.mail.specs.Trays.{Trays, putting, put_trays, take_answer, take_trays}

-- the first refusal ends it, with the trays as they then stand
abbrev pub two_in : {Y : Type 0} → ℕ → (List Message → Message → ℕ) → Trays → ℕ → Message → Message → (MailFault → Trays → Y) → (Trays → Y) → Y
two_in limit place t p m n refused accepted =
    let t₁ = put_trays limit place t p m in
    putting limit t p (λ f. refused f t) (putting limit t₁ p (λ f. refused f t₁) (accepted (put_trays limit place t₁ p n)))

abbrev pub two_in_one_out_answer : ℕ → (List Message → Message → ℕ) → Trays → ℕ → Message → Message → Result Message MailFault
two_in_one_out_answer limit place t p m n = two_in limit place t p m n (λ f _. Err f) (λ t₂. take_answer t₂ p)

abbrev pub two_in_one_out_trays : ℕ → (List Message → Message → ℕ) → Trays → ℕ → Message → Message → Trays
two_in_one_out_trays limit place t p m n = two_in limit place t p m n (λ _ t₁. t₁) (λ t₂. take_trays t₂ p)
