-- Definitions for the contracts of a gate's book with its ledgers, and of the accounts of its desks.
-- RFC 9309, sections 2.3.1 and 2.4.
pub mod Balance
pub mod Accounts
pub mod Entered
