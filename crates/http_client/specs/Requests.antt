-- The octets of a request for a page.
-- RFC 9112, section 3.
use Rattle.std.specs.Prelude.{ℕ, List}
use Rattle.path_normal.specs.PageText.{host_of, target_of}
use Rattle.http_wire.specs.Request.{request_with}
use Rattle.http_client.specs.declared.page_request.PageRequest.{PageRequest}

-- a GET for the page, under its agent, with the fields that are handed on; it may ask for the end of the connection
abbrev pub octets_of : PageRequest → List ℕ
octets_of page = request_with page.ending page.fields.now (target_of page.url.now) (host_of page.url.now) page.agent.now
