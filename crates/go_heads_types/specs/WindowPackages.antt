-- Packages that type-check, by the heads of their files.
use Rattle.std.specs.Prelude.{List, map}
use Rattle.go_typed.specs.Packages.{PackageView}
use Rattle.go_heads.specs.Heads.{File, Head, heads}
use Rattle.go_package_defs.specs.Sources.{Package, Source, source_of, package_of}
use Rattle.go_heads_types.specs.Portions.{files_of}

-- its files, with their trees
abbrev pub sources_of : PackageView → List Source
sources_of p = map source_of p.files

-- the package, as it is checked
abbrev pub package_read : PackageView → Package
package_read p = package_of (sources_of p) p.uses

-- its files, each with its name
abbrev pub package_files : PackageView → List File
package_files p = files_of p.names (sources_of p)

-- its head: of each file the name, and the texts of the tokens outside the bodies of functions
abbrev pub package_head : PackageView → List Head
package_head p = heads (package_files p)
