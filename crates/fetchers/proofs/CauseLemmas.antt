-- Failures other than that of TLS say nothing of an early end.
use Rattle.std.proofs.Common.{◌≡◌, ◌≢◌, Some, codes, refl}
use Rattle.http_client.specs.declared.failure.Failure.{Failure}
use Rattle.http_client.specs.declared.failure.Failure.TheVariants as failures
use Rattle.fetchers.specs.declared.closed_by.RobotsFault.TheVariants as faults
use Rattle.fetchers.specs.CauseText.{early_end_phrase}
use Rattle.fetchers.specs.Closings.{fault_of_early_end}
use Rattle.fetchers.specs.Notes.{coded, early_code}

pub not_tls : (failure : Failure) → failure ≢ failures.NoTls → early_end_phrase (Some failure) ≡ codes "ended early"
not_tls failures.NoName other = refl
not_tls failures.Refused other = refl
not_tls failures.Unreachable other = refl
not_tls failures.Reset other = refl
not_tls (failures.NotConnected limit) other = refl
not_tls (failures.Silent limit) other = refl
not_tls (failures.TooLong limit) other = refl
not_tls failures.NoTls other = absurd (other refl)
not_tls failures.NoTlsProgram other = refl
not_tls failures.Stopped other = refl
not_tls failures.Other other = refl

pub not_tls_code : (failure : Failure) → failure ≢ failures.NoTls → early_code (Some failure) ≡ coded 6 0
not_tls_code failures.NoName other = refl
not_tls_code failures.Refused other = refl
not_tls_code failures.Unreachable other = refl
not_tls_code failures.Reset other = refl
not_tls_code (failures.NotConnected limit) other = refl
not_tls_code (failures.Silent limit) other = refl
not_tls_code (failures.TooLong limit) other = refl
not_tls_code failures.NoTls other = absurd (other refl)
not_tls_code failures.NoTlsProgram other = refl
not_tls_code failures.Stopped other = refl
not_tls_code failures.Other other = refl

pub not_tls_fault : (failure : Failure) → failure ≢ failures.NoTls → fault_of_early_end (Some failure) ≡ faults.Other
not_tls_fault failures.NoName other = refl
not_tls_fault failures.Refused other = refl
not_tls_fault failures.Unreachable other = refl
not_tls_fault failures.Reset other = refl
not_tls_fault (failures.NotConnected limit) other = refl
not_tls_fault (failures.Silent limit) other = refl
not_tls_fault (failures.TooLong limit) other = refl
not_tls_fault failures.NoTls other = absurd (other refl)
not_tls_fault failures.NoTlsProgram other = refl
not_tls_fault failures.Stopped other = refl
not_tls_fault failures.Other other = refl
